use Rattle.std.proofs.Common.{◌≡◌, map, reverse, ap, ◌∙◌, rules}
use Rattle.std.proofs.lemmas.List.{take_all, drop_all, append-nil}
use Rattle.std.proofs.lemmas.List.Edits.{map_over_more}
use Rattle.rules.specs.Script.{turned_line}
use Rattle.script.proofs.Turned.{reverse_turned}
use Rattle.script.proofs.turning.turn_lines.Goals as goal

pub loop-line-preserved : goal.loop-line-preserved
loop-line-preserved c = search (rules, map_over_more turned_line)

pub returns : goal.returns
returns c =
    let all : c.loop-line.lines ≡ map turned_line c.args.lines.now = search (rules, take_all, drop_all, append-nil) in
    c.reverse.ensures.after ∙ ap reverse all ∙ reverse_turned c.args.lines.now
