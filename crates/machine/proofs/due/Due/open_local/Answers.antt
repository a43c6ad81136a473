use Rattle.std.proofs.Common.{◌≡◌, ◌+◌, ◌<◌, true, ltb, length, take, set, ap, ◌∙◌, arith, rules}
use Rattle.std.proofs.lemmas.List.{take_more_set, length-take-le}
use Rattle.std.proofs.lemmas.Int.{to_z-of_z}
use Rattle.std.proofs.lemmas.Bool.Decides.{nat_tests}
use Rattle.rules.specs.Answer.{◌>>=◌, need}
use Rattle.machine.specs.Acting.{opens}
use Rattle.machine.proofs.due.Due.open_local.Goals as goal

pub returns-then-work-ge256 : goal.returns-then-work-ge256
unfolding opens ◌>>=◌ need
returns-then-work-ge256 g c = search rules

pub returns : goal.returns
unfolding opens ◌>>=◌ need
returns g c =
    let w = c.args.work.now in
    let n = length-take-le w.opened w.locals (omega arith) in
    let t : ltb (length (take w.opened w.locals)) 256 ≡ true = grind (arith, nat_tests) in
    let i : w.opened < length w.locals = omega arith in
    let p = ap (λ z. take (w.opened + 1) (set w.locals w.opened z)) (to_z-of_z _ _ c.ranges.e) ∙ take_more_set w.locals w.opened c.args.e i in
    rw t (search rules)
