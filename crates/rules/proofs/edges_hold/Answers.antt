use Rattle.rules.proofs.Figures.{edges}
use Rattle.rules.proofs.edges_hold.Goals as goal

pub returns : goal.returns
returns c = edges
