-- An expression read term by term.
use Rattle.std.proofs.Common.{◌≡◌, ℕ, suc, ◌+◌, ◌-◌, Bool, true, false, cond, ◌&&◌, ◌||◌, eqb, ltb, leb, List, [], ◌∷◌, Some, None, Ok, Err, Option, Result, sym, refl, ap, ◌∙◌, ap₂, add-one}
use Rattle.rules.specs.Check.{term_form, terms_form, postfix, names}
use Rattle.rules.specs.declared.Place.{Place}
use Rattle.rules.specs.declared.Term.{Term}
use Rattle.rules.specs.declared.Refusal.{Refusal}
use Rattle.rules.specs.declared.Refusal.TheVariants.{Malformed}
use Rattle.forms.specs.Reading.{waiting_after, mentioned, read_in}

abbrev go_on : Option ℕ → (ℕ → Result Bool Refusal) → Result Bool Refusal
go_on None f = Err Malformed
go_on (Some m) f = f m

-- with n values waiting, and x named so far or not
abbrev pub read_on : Place → ℕ → ℕ → Bool → List Term → Result Bool Refusal
read_on x d n named [] = cond (eqb n 1) (Ok named) (Err Malformed)
read_on x d n named (t ∷ ts) = go_on (waiting_after d t n) (λ m. read_on x d m (named || mentioned x t) ts)

abbrev answered : Place → ℕ → ℕ → Bool → List Term → Result Bool Refusal
answered x d n named ts = cond (terms_form d ts && postfix n ts) (Ok (named || names x ts)) (Err Malformed)

or_false : (a : Bool) → (a || false) ≡ a
or_false true = refl
or_false false = refl

or_assoc : (a b c : Bool) → ((a || b) || c) ≡ (a || (b || c))
or_assoc true b c = refl
or_assoc false b c = refl

and_false : (a : Bool) → (a && false) ≡ false
and_false true = refl
and_false false = refl

read_on_lem : (x : Place) (d n : ℕ) (named : Bool) (ts : List Term) → read_on x d n named ts ≡ answered x d n named ts
read_on_lem x d n named [] = ap (λ b. cond (eqb n 1) (Ok b) (Err Malformed)) (sym (or_false named))
read_on_lem x d n named (t ∷ ts) = by (term_form d t) (leb t.kind 3) (ltb n 16) (leb 2 n) (λ m. read_on_lem x d m (named || mentioned x t) ts)
  where
    regrouped : (m k : ℕ) → m ≡ k → answered x d m (named || mentioned x t) ts ≡ cond (terms_form d ts && postfix k ts) (Ok (named || (mentioned x t || names x ts))) (Err Malformed)
    regrouped m k e = ap₂ (λ j b. cond (terms_form d ts && postfix j ts) (Ok b) (Err Malformed)) e (or_assoc named (mentioned x t) (names x ts))

    stopped : Err Malformed ≡ cond (terms_form d ts && false) (Ok (named || (mentioned x t || names x ts))) (Err Malformed)
    stopped = ap (λ b. cond b (Ok (named || (mentioned x t || names x ts))) (Err Malformed)) (sym (and_false (terms_form d ts)))

    by : (f k a b : Bool) → ((m : ℕ) → read_on x d m (named || mentioned x t) ts ≡ answered x d m (named || mentioned x t) ts)
        → go_on (cond f (cond k (cond a (Some (n + 1)) None) (cond b (Some (n - 1)) None)) None) (λ m. read_on x d m (named || mentioned x t) ts)
        ≡ cond ((f && terms_form d ts) && elim k as (λ _. Bool) [ true ↦ a && postfix (suc n) ts | false ↦ b && postfix (n - 1) ts ]) (Ok (named || (mentioned x t || names x ts))) (Err Malformed)
    by false k a b rest = refl
    by true true true b rest = rest (n + 1) ∙ regrouped (n + 1) (suc n) (add-one n)
    by true true false b rest = stopped
    by true false a true rest = rest (n - 1) ∙ regrouped (n - 1) (n - 1) refl
    by true false a false rest = stopped

pub read_all : (x : Place) (d : ℕ) (ts : List Term) → read_on x d 0 false ts ≡ read_in x d ts
read_all x d ts = read_on_lem x d 0 false ts
