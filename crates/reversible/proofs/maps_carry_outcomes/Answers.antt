use Rattle.std.proofs.Common.{T}
use Rattle.reversible.proofs.maps_carry_outcomes.Goals as goal
use Rattle.reversible.proofs.Mapped.{carries}
use Rattle.reversible.specs.Laws.{Tested}

pub returns : goal.returns
returns g c m m' from inv turns ln f h maps laws laws' =
    carries m m' (λ a. T (from a)) (Tested inv) turns ln f h maps laws.restores laws'.restores
