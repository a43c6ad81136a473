use Rattle.reversible.proofs.runs_keep_the_laws.Goals as goal
use Rattle.reversible.proofs.Runs.{run_laws}
use Rattle.reversible.specs.Laws.{Tested}

pub returns : goal.returns
returns g c m inv lawful = run_laws m (Tested inv) lawful
