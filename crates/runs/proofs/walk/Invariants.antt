use Rattle.std.proofs.Common.{◌≡◌, ◌-◌, ◌≤◌}
use Rattle.reversible.specs.Machine.{walk}
use Rattle.rules.specs.Run.{machine}
use Rattle.script.specs.Programs.{script_of}
use Rattle.work.specs.View.{state}
use Rattle.runs.specs.Walks.{halted}
use Rattle.runs.proofs.walk.Given as goal

abbrev pub invariant-loop-work : goal.invariant-loop-work
invariant-loop-work g l =
    (l.steps ≤ l.budget)
    × (halted l.steps (walk (machine (script_of l.program)) (l.budget - l.steps) (state l.work (g.S.Store.book l.store)))
    ≡ halted 0 (walk (machine (script_of l.program)) l.budget (state l.initial.work (g.S.Store.book l.initial.store))))

abbrev pub decreases-loop-work : goal.decreases-loop-work
decreases-loop-work g l = l.budget - l.steps
