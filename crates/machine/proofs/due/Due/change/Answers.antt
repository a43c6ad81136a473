use Rattle.std.proofs.Common.{rules}
use Rattle.rules.specs.Answer.{◌>>=◌, need}
use Rattle.machine.specs.Acting.{changes}
use Rattle.machine.proofs.due.Due.change.Goals as goal

pub returns : goal.returns
unfolding changes ◌>>=◌ need
returns g c = search rules
