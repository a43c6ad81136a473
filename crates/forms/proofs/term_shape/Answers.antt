use Rattle.std.proofs.Common.{ap, sym, ◌∙◌, rules}
use Rattle.rules.specs.Terms.{term_code}
use Rattle.forms.proofs.Operators.{operator_shape}
use Rattle.forms.proofs.term_shape.Goals as goal

pub returns-in-Operator : goal.returns-in-Operator
returns-in-Operator c =
    let e = operator_shape c.args.t c.in-Operator.field-0 (ap term_code (sym c.in-Operator.is) ∙ c.in-Ok.ensures) in
    rw e (search rules)
