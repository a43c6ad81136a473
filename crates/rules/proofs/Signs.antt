-- The numbers of operators lie past those of the other terms.
use Rattle.std.proofs.Common.{ℕ, ◌≤◌, arith}
use Rattle.rules.specs.Terms.{sign}
use Rattle.rules.specs.declared.Operator.{Operator}
use Rattle.rules.specs.declared.Operator.TheVariants.{Plus, Minus, Xor, Times, Over, Remainder, BitAnd, BitOr, And, Or, Less, Greater, Equal, NotEqual, AtMost, AtLeast}

abbrev pub SignOf : ℕ → Type 0
SignOf n = (4 ≤ n) × (n ≤ 19)

pub sign_range : (o : Operator) → SignOf (sign o)
sign_range Plus = (omega arith, omega arith)
sign_range Minus = (omega arith, omega arith)
sign_range Xor = (omega arith, omega arith)
sign_range Times = (omega arith, omega arith)
sign_range Over = (omega arith, omega arith)
sign_range Remainder = (omega arith, omega arith)
sign_range BitAnd = (omega arith, omega arith)
sign_range BitOr = (omega arith, omega arith)
sign_range And = (omega arith, omega arith)
sign_range Or = (omega arith, omega arith)
sign_range Less = (omega arith, omega arith)
sign_range Greater = (omega arith, omega arith)
sign_range Equal = (omega arith, omega arith)
sign_range NotEqual = (omega arith, omega arith)
sign_range AtMost = (omega arith, omega arith)
sign_range AtLeast = (omega arith, omega arith)
