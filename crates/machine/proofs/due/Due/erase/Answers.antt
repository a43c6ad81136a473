use Rattle.std.proofs.Common.{rules}
use Rattle.rules.specs.Answer.{◌>>=◌, need}
use Rattle.machine.specs.Acting.{erases}
use Rattle.machine.proofs.due.Due.erase.Goals as goal

pub returns-then-read_at : goal.returns-then-read_at
unfolding erases ◌>>=◌ need
returns-then-read_at g c = search rules
