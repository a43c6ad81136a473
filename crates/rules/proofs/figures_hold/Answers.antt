use Rattle.rules.proofs.figures_hold.Goals as goal
use Rattle.rules.proofs.Figures.{figures}

pub returns : goal.returns
returns c = figures
