-- The values that wait while an expression is worked out, the last first.
use Rattle.std.specs.Prelude.{◌≡◌, List, [], ◌∷◌, ℤ, Ok, Err, Result}
use Rattle.rules.specs.declared.Refusal.{Refusal}
use Rattle.rules.specs.declared.Refusal.TheVariants.{Malformed}

-- the answer r and the values that wait after it say what o says
abbrev pub Pushed : Result (Unit {0}) Refusal → List ℤ → Result (List ℤ) Refusal → Type 0
Pushed (Ok u) after o = o ≡ Ok after
Pushed (Err f) after o = o ≡ Err f

abbrev pub top_of : List ℤ → Result ℤ Refusal
top_of [] = Err Malformed
top_of (v ∷ vs) = Ok v

abbrev pub below : List ℤ → List ℤ
below [] = []
below (v ∷ vs) = vs

abbrev pub alone : List ℤ → Result ℤ Refusal
alone [] = Err Malformed
alone (v ∷ []) = Ok v
alone (v ∷ w ∷ vs) = Err Malformed
