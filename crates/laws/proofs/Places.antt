-- Two places that are written differently lie apart, so an expression does not see a write to a place that it does not name.
use Rattle.std.proofs.Common.{◌≡◌, ℕ, zero, suc, ◌+◌, ◌-◌, true, false, cond, ◌&&◌, leb, List, [], ◌∷◌, get_or, set, ℤ, pos, Ok, Err, Result, sym, refl, ap, ◌∙◌, ap₂, arith}
use mathlib.Core.Path.{fun_ext}
use Rattle.std.specs.List.{AllByRecursion}
use Rattle.std.proofs.lemmas.Bool.{and_parts, or_parts, eq-eqb, cond-true, both_ways, and_from}
use Rattle.rules.specs.Answer.{◌>>=◌}
use Rattle.rules.specs.Book.{record_at}
use Rattle.rules.specs.Script.{alike, letter, index}
use Rattle.rules.specs.Check.{known, reaches, names, place_form, term_shape, term_form, terms_form}
use Rattle.rules.specs.Expression.{worked, taken}
use Rattle.rules.specs.Step.{State, found, find, see, write, base}
use Rattle.rules.specs.declared.Spot.{Spot}
use Rattle.rules.specs.declared.Spot.TheVariants.{InBook, InLocals}
use Rattle.rules.specs.declared.Place.{Place}
use Rattle.rules.specs.declared.Place.TheVariants.{None, M, R, N, F, V}
use Rattle.rules.specs.declared.Term.{Term}
use Rattle.laws.proofs.Lens.{read_other}
use Rattle.laws.proofs.Chains.{ok_err, ok_same}
use Rattle.rules.specs.declared.Refusal.{Refusal}

-- the place that lies at a spot, while this record is present and the locals begin there
abbrev place_at : ℕ → ℕ → Spot → Place
place_at k b (InBook w) =
    cond (leb w 64) (M w) (cond (leb w 80) (R (w - 64)) (cond (leb w (record_at k + 3)) (N (w - record_at k)) (F (w - record_at k - 4))))
place_at k b (InLocals i) = V (i - b)

placed : (k b : ℕ) (p : Place) (u : Spot) → known p ≡ true → found k b p ≡ Ok u → place_at k b u ≡ p
placed k b None u h e = ok_err e
placed k b (M i) u h e =
    rw (sym (ok_same e)) (cond-true (leb i 64) _ _ (and_parts _ _ h).1)
placed k b (R i) u h e = rw (sym (ok_same e)) (grind arith)
placed zero b (N i) u h e = ok_err e
placed (suc k) b (N i) u h e = rw (sym (ok_same e)) (grind arith)
placed zero b (F i) u h e = ok_err e
placed (suc k) b (F i) u h e = rw (sym (ok_same e)) (grind arith)
placed k b (V i) u h e = rw (sym (ok_same e)) (ap V (omega arith))

alike_refl : (p : Place) → alike p p ≡ true
alike_refl p = and_from _ _ (eq-eqb (letter p) (letter p) refl) (eq-eqb (index p) (index p) refl)

pub apart : (k b : ℕ) (p q : Place) (u w : Spot) → known p ≡ true → known q ≡ true → alike p q ≡ false
    → found k b p ≡ Ok u → found k b q ≡ Ok w → u ≡ w → ⊥
apart k b p q u w hp hq differ e f same =
    let both : p ≡ q = sym (placed k b p u hp e) ∙ ap (place_at k b) same ∙ placed k b q w hq f in
    both_ways (alike p p) (rw (sym both) at differ) (alike_refl p)

-- a place that is written differently is not touched by a write
pub see_write : (s : State) (p q : Place) (u : Spot) (v : ℤ) → known p ≡ true → known q ≡ true → alike p q ≡ false
    → find s p ≡ Ok u → see (write u v s) q ≡ see s q
unfolding ◌>>=◌
see_write s p q u v hp hq differ e = at (find s q) refl
  where
    at : (r : Result Spot Refusal) → find s q ≡ r → see (write u v s) q ≡ see s q
    at (Ok w) f = rw f (ap {B = Result ℤ Refusal} Ok (read_other s u w v (apart s.present (base s.frames) p q u w hp hq differ e f)))
    at (Err n) f = rw f

-- two ways to see that agree on the places of the terms give one value
abbrev pub Agree : (Place → Result ℤ Refusal) → (Place → Result ℤ Refusal) → Term → Type 0
Agree f g t = (f t.first ≡ g t.first) × (f t.second ≡ g t.second)

pub worked_same : (f g : Place → Result ℤ Refusal) (ts : List Term) (vs : List ℤ) → AllByRecursion (Agree f g) ts → worked f ts vs ≡ worked g ts vs
unfolding worked
worked_same f g [] [] h = refl
worked_same f g [] (v ∷ []) h = refl
worked_same f g [] (v ∷ w ∷ vs) h = refl
worked_same f g (t ∷ ts) vs h =
    ap₂ (λ a b. taken t a b vs >>= worked f ts) h.0.0 h.0.1 ∙ ap (λ k. taken t (g t.first) (g t.second) vs >>= k) (fun_ext (λ us. worked_same f g ts us h.1))

-- what the check found of a list of terms: each place is known, and open if it is a local
abbrev pub Sound : ℕ → Term → Type 0
Sound d t = (place_form d t.first ≡ true) × (place_form d t.second ≡ true)

pub terms_sound : (d : ℕ) (ts : List Term) → terms_form d ts ≡ true → AllByRecursion (Sound d) ts
terms_sound d [] h = tt
terms_sound d (t ∷ ts) h =
    let (first, rest) = and_parts (term_form d t) (terms_form d ts) h in
    let (_, places) = and_parts (term_shape t) (place_form d t.first && place_form d t.second) first in
    (and_parts (place_form d t.first) (place_form d t.second) places, terms_sound d ts rest)

-- terms that are allowed and do not name p agree before and after a write to p
pub unnamed : (s : State) (p : Place) (u : Spot) (v : ℤ) (d : ℕ) (ts : List Term) → known p ≡ true → find s p ≡ Ok u
    → AllByRecursion (Sound d) ts → names p ts ≡ false → AllByRecursion (Agree (see (write u v s)) (see s)) ts
unnamed s p u v d [] hp e h n = tt
unnamed s p u v d (t ∷ ts) hp e h n =
    let (here, there) = or_parts _ _ n in
    let (n₁, n₂) = or_parts _ _ here in (
      (
        see_write s p t.first u v hp (and_parts _ (reaches d t.first) h.0.0).0 n₁ e,
        see_write s p t.second u v hp (and_parts _ (reaches d t.second) h.0.1).0 n₂ e,
      ),
      unnamed s p u v d ts hp e h.1 there,
    )

pub put_back : (b : List ℤ) (i : ℕ) (k : ℤ → ℤ) (w : ℤ) → k w ≡ get_or b i (pos 0) → set (set b i w) i (k (get_or (set b i w) i (pos 0))) ≡ b
put_back [] i k w h = refl
put_back (x ∷ b) zero k w h = ap {B = List ℤ} (λ y. y ∷ b) h
put_back (x ∷ b) (suc i) k w h = ap {B = List ℤ} (λ c. x ∷ c) (put_back b i k w h)
