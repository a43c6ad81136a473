use Rattle.laws.proofs.whole_stands.Goals as goal
use Rattle.laws.proofs.Stands.{whole}

pub returns : goal.returns
returns c = whole
