-- The arithmetic of words. A word is a signed 32-bit number.
use Rattle.std.specs.Prelude.{ℕ, Bool, true, false, cond, not, ◌&&◌, ◌||◌, List, [], ◌∷◌, ℤ, pos, negsuc, ◌+ℤ◌, ◌-ℤ◌, ◌*ℤ◌, Ok, Err, Result, ◌==◌, bit_and, bit_or, bit_xor, int_div, int_le, int_lt, int_rem, slice_index_or}
use Rattle.std.proofs.Common.{to_z, of_z}
use Rattle.std.specs.Int.{int_wrap, w32}
use Rattle.rules.specs.declared.Refusal.{Refusal}
use Rattle.rules.specs.declared.Refusal.TheVariants.{Malformed, ZeroDivisor}

abbrev pub eq_z : ℤ → ℤ → Bool
eq_z (pos a) (pos b) = a == b
eq_z (pos a) (negsuc b) = false
eq_z (negsuc a) (pos b) = false
eq_z (negsuc a) (negsuc b) = a == b

-- nonzero is true, and a test gives 1 or 0
abbrev pub holds : ℤ → Bool
holds z = not (eq_z z (pos 0))

abbrev pub truth : Bool → ℤ
truth b = cond b (pos 1) (pos 0)

-- a number reduced modulo 2^32 to a word
abbrev pub word : ℤ → ℤ
word z = int_wrap w32 z

-- the bits of a word, in two's complement
abbrev pub bits : ℤ → ℕ
bits z = of_z w32 (word z)

abbrev pub on_bits : (ℕ → ℕ → ℕ) → ℤ → ℤ → ℤ
on_bits f a b = to_z w32 (f (bits a) (bits b))

abbrev pub divided : (ℤ → ℤ → ℤ) → ℤ → ℤ → Result ℤ Refusal
divided f a b = elim (eq_z b (pos 0)) [ true ↦ Err ZeroDivisor | false ↦ Ok (word (f a b)) ]

abbrev pub no_operator : ℤ → ℤ → Result ℤ Refusal
no_operator a b = Err Malformed

-- the operators in the order of their term kinds: 0 to 3 are none, then + - ^ * / % & | && || < > = != <= >=
-- (quotients round toward zero, and a remainder is what the quotient leaves; both sides of && and || are values already)
abbrev pub operators : List (ℤ → ℤ → Result ℤ Refusal)
operators =
    no_operator ∷ no_operator ∷ no_operator ∷ no_operator
    ∷ (λ a b. Ok (word (a +ℤ b)))
    ∷ (λ a b. Ok (word (a -ℤ b)))
    ∷ (λ a b. Ok (on_bits bit_xor a b))
    ∷ (λ a b. Ok (word (a *ℤ b)))
    ∷ divided int_div
    ∷ divided int_rem
    ∷ (λ a b. Ok (on_bits bit_and a b))
    ∷ (λ a b. Ok (on_bits bit_or a b))
    ∷ (λ a b. Ok (truth (holds a && holds b)))
    ∷ (λ a b. Ok (truth (holds a || holds b)))
    ∷ (λ a b. Ok (truth (int_lt a b)))
    ∷ (λ a b. Ok (truth (int_lt b a)))
    ∷ (λ a b. Ok (truth (eq_z a b)))
    ∷ (λ a b. Ok (truth (not (eq_z a b))))
    ∷ (λ a b. Ok (truth (int_le a b)))
    ∷ (λ a b. Ok (truth (int_le b a)))
    ∷ []

unfoldable pub operate : ℕ → ℤ → ℤ → Result ℤ Refusal
operate kind = slice_index_or operators kind no_operator
