-- Terms whose kind is an operator, or is none.
use Rattle.std.proofs.Common.{◌≡◌, ℕ, ◌<◌, Bool, false, ◌&&◌, leb, [], ◌∷◌, get_or, pos, ap, ◌∙◌, arith}
use Rattle.std.proofs.lemmas.List.{get_or_past}
use Rattle.std.proofs.lemmas.Bool.{le-leb, lt-leb}
use Rattle.rules.specs.Terms.{sign}
use Rattle.rules.specs.Script.{is_none}
use Rattle.rules.specs.Word.{eq_z}
use Rattle.rules.specs.Check.{place_form, term_shape, term_form}
use Rattle.rules.specs.declared.Operator.{Operator}
use Rattle.rules.specs.declared.Term.{Term}
use Rattle.rules.proofs.Signs.{sign_range}

past_four : (a b c d e : Bool) (n : ℕ) → 3 < n → get_or (a ∷ b ∷ c ∷ d ∷ []) n e ≡ e
past_four a b c d e n h = get_or_past (a ∷ b ∷ c ∷ d ∷ []) n e h

module _ (t : Term) where
  -- what is asked of a term that is no number, place or test
  abbrev bare : Bool
  bare = is_none t.first && (is_none t.second && eq_z t.number (pos 0))

  past : 3 < t.kind → term_shape t ≡ (leb t.kind 19 && bare)
  past h = past_four _ _ _ _ _ t.kind h

  pub operator_shape : (o : Operator) → sign o ≡ t.kind → term_shape t ≡ bare
  operator_shape o e =
      let s = sign_range o in
      past (omega (arith, e, s.0)) ∙ ap (λ b. b && bare) (le-leb t.kind 19 (omega (arith, e, s.1)))

  pub operator_high : (o : Operator) → sign o ≡ t.kind → leb t.kind 3 ≡ false
  operator_high o e = let s = sign_range o in lt-leb t.kind 3 (omega (arith, e, s.0))

  pub no_kind : (d : ℕ) → 19 < t.kind → term_form d t ≡ false
  no_kind d h =
      let q = past (omega (arith, h)) ∙ ap (λ b. b && bare) (lt-leb t.kind 19 h) in
      ap (λ b. b && (place_form d t.first && place_form d t.second)) q
