use Rattle.std.proofs.Common.{rules}
use Rattle.rules.specs.Answer.{◌>>=◌, need}
use Rattle.machine.specs.Acting.{releases}
use Rattle.machine.proofs.due.Due.release.Goals as goal

pub returns-then-not-is_clear : goal.returns-then-not-is_clear
unfolding releases ◌>>=◌ need
returns-then-not-is_clear g c = search rules
