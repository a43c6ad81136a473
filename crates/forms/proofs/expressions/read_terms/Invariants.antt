use Rattle.std.proofs.Common.{◌≡◌, drop}
use Rattle.forms.specs.Reading.{read_in}
use Rattle.forms.proofs.Expression.{read_on}
use Rattle.forms.proofs.expressions.read_terms.Given as goal

abbrev pub invariant-loop-t : goal.invariant-loop-t
invariant-loop-t l = read_on l.x l.depth l.waiting l.named (drop l.t-index l.terms) ≡ read_in l.x l.depth l.terms
