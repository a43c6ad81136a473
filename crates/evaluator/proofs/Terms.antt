-- Terms worked out one after the other.
use Rattle.std.proofs.Common.{◌≡◌, ℕ, ◌+◌, ◌<◌, ◌≤◌, List, [], ◌∷◌, length, get_or, drop, ℤ, Ok, Err, Result, sym, refl, ap, ◌∙◌, arith}
use Rattle.std.proofs.lemmas.List.{at_drop_more, at_drop_all, get_or_past}
use Rattle.rules.specs.declared.Refusal.{Refusal}
use Rattle.rules.specs.declared.Refusal.TheVariants.{Malformed}
use Rattle.rules.specs.declared.Place.{Place}
use Rattle.rules.specs.declared.Term.{Term}
use Rattle.rules.specs.Answer.{◌>>=◌}
use Rattle.rules.specs.Word.{operate, operators, no_operator}
use Rattle.rules.specs.Terms.{sign}
use Rattle.rules.specs.declared.Operator.{Operator}
use Rattle.rules.proofs.Signs.{sign_range}
use Rattle.rules.specs.Expression.{onto, operated, taken, worked}
use Rattle.evaluator.specs.Waiting.{alone}

module _ (sees : Place → Result ℤ Refusal) where
  abbrev pub one : Term → List ℤ → Result (List ℤ) Refusal
  one t vs = taken t (sees t.first) (sees t.second) vs

  module _ (ts : List Term) (i : ℕ) (vs : List ℤ) (R : Result ℤ Refusal) (inv : worked sees (drop i ts) vs ≡ R) where
    one_more : (d : Term) → i < length ts → (one (get_or ts i d) vs >>= worked sees (drop (i + 1) ts)) ≡ R
    unfolding worked
    one_more d h =
        let p : worked sees (drop i ts) vs ≡ (one (get_or ts i d) vs >>= worked sees (drop (i + 1) ts)) = at_drop_more (λ us. worked sees us vs) ts i d h in
        sym p ∙ inv

    pub goes_on : (d : Term) (ws : List ℤ) → i < length ts → one (get_or ts i d) vs ≡ Ok ws → worked sees (drop (i + 1) ts) ws ≡ R
    unfolding ◌>>=◌
    goes_on d ws h e = sym (ap (λ r. r >>= worked sees (drop (i + 1) ts)) e) ∙ one_more d h

    pub stops : (d : Term) (f : Refusal) → i < length ts → one (get_or ts i d) vs ≡ Err f → Err f ≡ R
    unfolding ◌>>=◌
    stops d f h e = sym (ap (λ r. r >>= worked sees (drop (i + 1) ts)) e) ∙ one_more d h

    pub ends : length ts ≤ i → alone vs ≡ R
    unfolding worked
    ends h = let p : worked sees (drop i ts) vs ≡ worked sees [] vs = at_drop_all (λ us. worked sees us vs) ts i h in sym (p ∙ none vs) ∙ inv
      where
        none : (vs : List ℤ) → worked sees [] vs ≡ alone vs
        none vs = refl

-- a term past the first four kinds is an operator
past_four : {X : Type 0} (a b c d e : X) (n : ℕ) → 3 < n → get_or (a ∷ b ∷ c ∷ d ∷ []) n e ≡ e
past_four a b c d e n h = get_or_past (a ∷ b ∷ c ∷ d ∷ []) n e h

module _ (t : Term) (a b : Result ℤ Refusal) (vs : List ℤ) where
  operates : 3 < t.kind → taken t a b vs ≡ operated t.kind vs
  unfolding taken
  operates h = ap (λ (f : List ℤ → Result (List ℤ) Refusal). f vs) (past_four _ _ _ _ (operated t.kind) t.kind h)

  pub operator_term : (o : Operator) → sign o ≡ t.kind → taken t a b vs ≡ operated (sign o) vs
  operator_term o e = let s = sign_range o in operates (omega (arith, e, s.0)) ∙ ap (λ k. operated k vs) (sym e)

  -- a kind that no term has
  pub no_term : 19 < t.kind → taken t a b vs ≡ Err Malformed
  unfolding operated operate ◌>>=◌
  no_term h = operates (omega (arith, h)) ∙ none vs
    where
      unknown : (x y : ℤ) → operate t.kind x y ≡ Err Malformed
      unknown x y = ap (λ (f : ℤ → ℤ → Result ℤ Refusal). f x y) (get_or_past operators t.kind no_operator h)

      none : (vs : List ℤ) → operated t.kind vs ≡ Err Malformed
      none [] = refl
      none (y ∷ []) = refl
      none (y ∷ x ∷ vs) = ap (λ r. r >>= onto vs) (unknown x y)
