use Rattle.std.proofs.Common.{rules}
use Rattle.rules.specs.Word.{operate}
use Rattle.evaluator.proofs.Operations.{not_zero}
use Rattle.evaluator.proofs.Quotients.{quot_wraps}
use Rattle.evaluator.proofs.operators.operate.Goals as goal

pub returns-in-Over-2 : goal.returns-in-Over-2
unfolding operate
returns-in-Over-2 c =
    let n = not_zero c.args.b c.if-b-eq0.false in
    let e = quot_wraps c.args.a c.args.b c.ranges.a in
    rw (c.in-Over.is, n) (search (rules, e))
