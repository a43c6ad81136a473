use Rattle.std.proofs.Common.{◌≡◌, [], drop}
use Rattle.rules.specs.Expression.{worked}
use Rattle.rules.specs.Step.{see}
use Rattle.work.specs.View.{state}
use Rattle.evaluator.proofs.expressions.value.Given as goal

abbrev pub invariant-loop-t : goal.invariant-loop-t
invariant-loop-t g l =
    worked (see (state l.work (g.S.Store.book l.store))) (drop l.t-index l.t-items) l.stack
    ≡ worked (see (state l.work (g.S.Store.book l.store))) l.t-items []
