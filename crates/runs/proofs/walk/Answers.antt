use Rattle.std.proofs.Common.{◌≡◌, ◌+◌, ◌-◌, Err, sym, ap, ◌∙◌, arith}
use Rattle.reversible.specs.Machine.{walk}
use Rattle.rules.specs.Run.{machine}
use Rattle.script.specs.Programs.{script_of}
use Rattle.work.specs.View.{state}
use Rattle.runs.specs.Walks.{stopped_at, halt, halted}
use Rattle.runs.proofs.Walking.{ends, spends, stops, goes_on}
use Rattle.runs.proofs.walk.Goals as goal

pub returns-then-steps-budget : goal.returns-then-steps-budget
returns-then-steps-budget g c =
    let n = c.loop-work.steps in
    ap (λ r. halt (Err r) (state c.loop-work.work (g.S.Store.book c.loop-work.store))) c.stopped_at.ensures
    ∙ sym (spends _ _ (c.args.budget - n) _ (sym c.finished.ensures ∙ c.loop-work-test.true) (omega arith))
    ∙ c.loop-work.invariant.1

pub returns-in-Err : goal.returns-in-Err
returns-in-Err g c =
    let (refused, same) = c.in-Err.ensures in
    let n = c.loop-work.steps in
    ap (λ r. halt (Err r) (state c.step.new.work (g.S.Store.book c.step.new.store))) c.stopped_at-in-Err.ensures
    ∙ ap (λ s. halt (Err (stopped_at c.in-Err.refusal n s)) s) same
    ∙ sym (stops _ _ (c.args.budget - n) _ _ (sym c.finished.ensures ∙ c.loop-work-test.true) (omega arith) refused)
    ∙ c.loop-work.invariant.1

pub loop-work-preserved : goal.loop-work-preserved
loop-work-preserved g c =
    let n = c.loop-work.steps in
    let t = state c.step.new.work (g.S.Store.book c.step.new.store) in
    let left : c.args.budget - (n + 1) ≡ c.args.budget - n - 1 = omega arith in (
      omega arith,
      ap (λ m. halted (n + 1) (walk (machine (script_of c.args.program.now)) m t)) left
          ∙ sym (goes_on _ _ (c.args.budget - n) _ t (omega arith) c.in_default.ensures)
          ∙ c.loop-work.invariant.1,
    )

pub returns : goal.returns
returns g c = sym (ends _ _ (c.args.budget - c.loop-work.steps) _ (sym c.finished.ensures ∙ c.loop-work-test.false)) ∙ c.loop-work.invariant.1
