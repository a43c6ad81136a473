use Rattle.std.proofs.Common.{◌≡◌, ◌-◌}
use Rattle.script.specs.Programs.{script_of}
use Rattle.work.specs.View.{state}
use Rattle.runs.specs.Walks.{stepped}
use Rattle.runs.proofs.make_steps.Given as goal

abbrev pub invariant-loop : goal.invariant-loop
invariant-loop g l =
    stepped (script_of l.program) (l.n - l.counter) (state l.work (g.S.Store.book l.store))
    ≡ stepped (script_of l.program) l.n (state l.initial.work (g.S.Store.book l.initial.store))
