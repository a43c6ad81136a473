use Rattle.std.proofs.Common.{arith, rules}
use Rattle.std.proofs.lemmas.List.{length-take-le}
use Rattle.rules.specs.Answer.{◌>>=◌, need}
use Rattle.machine.specs.Acting.{closes}
use Rattle.machine.proofs.due.Due.close_local.Goals as goal

pub returns-then-read_at-e : goal.returns-then-read_at-e
unfolding closes ◌>>=◌ need
returns-then-read_at-e g c = search rules

pub returns : goal.returns
unfolding closes ◌>>=◌ need
returns g c =
    let w = c.args.work.now in
    let n = length-take-le w.opened w.locals (omega arith) in
    search rules
