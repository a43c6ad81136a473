use Rattle.std.proofs.Common.{Ok, sym, ap, ◌∙◌}
use Rattle.laws.proofs.Stands.{whole}
use Rattle.script.specs.Verdicts.{verdict}
use Rattle.script.proofs.Turned.{turns_back}
use Rattle.script.proofs.turning.turn.Goals as goal

pub returns-in_err-check-clause-whole : goal.returns-in_err-check-clause-whole
returns-in_err-check-clause-whole c = whole

pub returns-clause-again : goal.returns-clause-again
returns-clause-again c =
    turns_back (Ok tt) c.args.lines.now c.turn_lines.new.lines c.args.terms.now (ap verdict (sym c.in_ok-check.was) ∙ c.check.ensures) c.turn_lines.ensures

pub returns-clause-whole : goal.returns-clause-whole
returns-clause-whole c = whole
