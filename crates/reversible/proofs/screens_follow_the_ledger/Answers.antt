use Rattle.std.proofs.Common.{T}
use Rattle.reversible.proofs.screens_follow_the_ledger.Goals as goal
use Rattle.reversible.proofs.Ledgers.{keeps}

pub returns : goal.returns
returns g c rules good inv lawful = keeps rules (λ c. T (good c)) (λ c q d s. T (inv c q d s)) lawful
