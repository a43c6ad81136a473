use Rattle.std.proofs.Common.{◌≡◌, ◌++◌, map, take, drop}
use Rattle.rules.specs.Script.{turned_line}
use Rattle.script.proofs.turning.turn_lines.Given as goal

abbrev pub invariant-loop-line : goal.invariant-loop-line
invariant-loop-line l = l.lines ≡ map turned_line (take l.line-index l.initial.lines) ++ drop l.line-index l.initial.lines
