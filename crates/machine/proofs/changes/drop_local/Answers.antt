use Rattle.std.proofs.Common.{◌-◌, ◌≤◌, arith, rules}
use Rattle.std.proofs.lemmas.List.{length-take-le, take-take}
use Rattle.machine.proofs.changes.drop_local.Goals as goal

pub returns : goal.returns
returns c =
    let w = c.args.work.now in
    let n = length-take-le w.opened w.locals (search rules) in
    let i : w.opened - 1 ≤ w.opened = omega arith in
    let p = take-take (w.opened - 1) w.opened w.locals i in
    search rules
