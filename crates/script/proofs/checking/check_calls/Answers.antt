use Rattle.std.proofs.Common.{◌∙◌, sym, ap}
use Rattle.reversible.specs.Ledger.{rejected}
use Rattle.script.specs.declared.checking.Fault.{Fault}
use Rattle.script.proofs.Walks.{called, calls_searched}
use Rattle.script.proofs.checking.check_calls.Goals as goal

pub returns-in-None : goal.returns-in-None
returns-in-None c = calls_searched c.args.lines.now c.args.begun.now c.requires.begun ∙ ap called (sym c.find_missing.ensures ∙ c.in-None.is)

pub returns-in-Some : goal.returns-in-Some
returns-in-Some c =
    let f : Fault → _ = λ f. rejected f.refusal f.line in
    calls_searched c.args.lines.now c.args.begun.now c.requires.begun ∙ ap called (sym c.find_missing.ensures ∙ c.in-Some.is) ∙ sym (ap f c.fault_at.ensures)
