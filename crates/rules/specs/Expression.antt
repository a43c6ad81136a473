-- What a postfix expression gives. Terms are taken from first to last.
use Rattle.std.specs.Prelude.{ℕ, cond, List, [], ◌∷◌, length, ℤ, pos, Ok, Err, Result, nat_lt, slice_index_or}
use Rattle.rules.specs.Answer.{◌>>=◌}
use Rattle.rules.specs.Word.{eq_z, truth, word, operate}
use Rattle.rules.specs.declared.Place.{Place}
use Rattle.rules.specs.declared.Term.{Term}
use Rattle.rules.specs.declared.Refusal.{Refusal}
use Rattle.rules.specs.declared.Refusal.TheVariants.{Malformed}

-- one value more; at most 16 wait
abbrev pub onto : List ℤ → ℤ → Result (List ℤ) Refusal
onto vs v = cond (nat_lt (length vs) 16) (Ok (v ∷ vs)) (Err Malformed)

-- an operator takes the two last values, the left side below the right
unfoldable pub operated : ℕ → List ℤ → Result (List ℤ) Refusal
operated kind [] = Err Malformed
operated kind (b ∷ []) = Err Malformed
operated kind (b ∷ a ∷ vs) = operate kind a b >>= onto vs

-- the values waiting, the last first, after a term whose places hold a and b:
-- a number, a number place, nil of a reference place, same of two reference places, or an operator
unfoldable pub taken : Term → Result ℤ Refusal → Result ℤ Refusal → List ℤ → Result (List ℤ) Refusal
taken t a b vs =
    slice_index_or
    ((λ vs. onto vs (word t.number))
    ∷ (λ vs. a >>= onto vs)
    ∷ (λ vs. a >>= λ v. onto vs (truth (eq_z v (pos 0))))
    ∷ (λ vs. a >>= λ v. b >>= λ w. onto vs (truth (eq_z v w)))
    ∷ [])
    t.kind
    (operated t.kind)
    vs

-- the one value that is left at the end; `see` finds what a place holds
unfoldable pub worked : (Place → Result ℤ Refusal) → List Term → List ℤ → Result ℤ Refusal
worked see [] [] = Err Malformed
worked see [] (v ∷ []) = Ok v
worked see [] (v ∷ w ∷ vs) = Err Malformed
worked see (t ∷ ts) vs = taken t (see t.first) (see t.second) vs >>= worked see ts
