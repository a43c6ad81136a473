-- The number of each kind of term.
use Rattle.std.specs.Prelude.{◌≡◌, ℕ, ◌<◌, Result, MatchResult}
use Rattle.rules.specs.declared.Operator.{Operator}
use Rattle.rules.specs.declared.Operator.TheVariants.{Plus, Minus, Xor, Times, Over, Remainder, BitAnd, BitOr, And, Or, Less, Greater, Equal, NotEqual, AtMost, AtLeast}
use Rattle.rules.specs.declared.TermKind.{TermKind}
use Rattle.rules.specs.declared.TermKind.TheVariants.{Number, Word, Nil, Same, Operator as Operates}
use Rattle.rules.specs.declared.Refusal.{Refusal}
use Rattle.rules.specs.declared.Refusal.TheVariants.{Malformed}

abbrev pub sign : Operator → ℕ
sign Plus = 4
sign Minus = 5
sign Xor = 6
sign Times = 7
sign Over = 8
sign Remainder = 9
sign BitAnd = 10
sign BitOr = 11
sign And = 12
sign Or = 13
sign Less = 14
sign Greater = 15
sign Equal = 16
sign NotEqual = 17
sign AtMost = 18
sign AtLeast = 19

abbrev pub term_code : TermKind → ℕ
term_code Number = 0
term_code Word = 1
term_code Nil = 2
term_code Same = 3
term_code (Operates o) = sign o

-- the kind of term with this number; where no kind has it, it is malformed
abbrev pub DecodesTerm : ℕ → Result TermKind Refusal → Type 0
DecodesTerm n r = MatchResult r (λ kind. term_code kind ≡ n) (λ f. (f ≡ Malformed) × (19 < n))
