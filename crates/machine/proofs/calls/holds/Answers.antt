use Rattle.std.proofs.Common.{rules}
use Rattle.rules.specs.Answer.{◌>>=◌, need}
use Rattle.machine.proofs.calls.holds.Goals as goal

pub returns-then-read_at-work : goal.returns-then-read_at-work
unfolding ◌>>=◌ need
returns-then-read_at-work g c = search rules
