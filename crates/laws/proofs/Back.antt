-- A step taken, and then taken with the state turned round, gives the first state turned round.
use Rattle.std.proofs.Common.{◌≡◌, ℕ, true, false, not, List, [], ℤ, Ok, Result, sym, refl, ap, ◌∙◌, ap₂}
use Rattle.std.specs.List.{AllByRecursion}
use Rattle.rules.specs.Answer.{◌>>=◌, need}
use Rattle.rules.specs.Word.{holds}
use Rattle.rules.specs.Script.{Script, partner, line_at, terms_of}
use Rattle.rules.specs.Check.{known, names}
use Rattle.rules.specs.Step.{find, read, write, see, changed, with_book, with_locals, State, value, go, go_to, past, asserted, branched, flipped, line}
use Rattle.rules.specs.declared.Spot.{Spot}
use Rattle.rules.specs.declared.Spot.TheVariants.{InBook, InLocals}
use Rattle.rules.specs.declared.Place.{Place}
use Rattle.rules.specs.declared.Term.{Term}
use Rattle.laws.proofs.Places.{Sound, worked_same, unnamed, put_back}
use Rattle.laws.proofs.Chains.{ok_same, passed, held, chose, not_true}
use Rattle.rules.specs.declared.Refusal.{Refusal}

-- the state stands at line l: past it in the other direction
abbrev pub At : ℕ → State → Type 0
At l s = s.position ≡ past (not s.forward) l

-- s went past line l to t, and the inverse leads back
abbrev pub Undone : (State → Result State Refusal) → ℕ → State → State → Type 0
Undone inverse l s t = (t.forward ≡ s.forward) × (t.position ≡ past s.forward l) × (inverse (flipped t) ≡ Ok (flipped s))

module _ (sc : Script) (l : ℕ) (s : State) (v : ℤ) (found : value sc s l ≡ Ok v) where
  asserted_at : holds v ≡ true → asserted sc l s ≡ go l s
  unfolding ◌>>=◌ need
  asserted_at y = rw (found, y)

  branched_at : holds v ≡ true → branched sc l s ≡ go l s
  unfolding ◌>>=◌ need
  branched_at y = rw (found, y)

  branched_past : (w : ℤ) → holds v ≡ false → value sc s (partner sc.lines l) ≡ Ok w → holds w ≡ false → branched sc l s ≡ go (partner sc.lines l) s
  unfolding ◌>>=◌ need
  branched_past w n other m = rw (found, n, other, m)

-- a state that went somewhere goes back by line l, turned round
returns : (l p : ℕ) (s : State) → At l s → go l (flipped (go_to p s)) ≡ Ok (flipped s)
returns l p s here = ap {B = Result State Refusal} (λ p. Ok (go_to p (flipped s))) (sym here)

-- fi, and if turned round; from, and until turned round
pub asserted_branched : (sc : Script) (l : ℕ) (s t : State) → At l s → asserted sc l s ≡ Ok t → Undone (branched sc l) l s t
asserted_branched sc l s t here e =
    passed _ _ e λ v found rest.
    held _ _ _ rest λ y last.
    rw (sym (ok_same last)) (refl, refl, branched_at sc l (flipped (go_to (past s.forward l) s)) v found y ∙ returns l (past s.forward l) s here)

-- a branch: the one way out leads back by the line itself, the other from the other line of the pair to this one
pub branched_back : {X : Type 0} (sc : Script) (l : ℕ) (s t : State) → At l s → partner sc.lines (partner sc.lines l) ≡ l → branched sc l s ≡ Ok t
    → (Undone (asserted sc l) l s t → X)
    → (Undone (branched sc (partner sc.lines l)) (partner sc.lines l) s t → X)
    → X
branched_back sc l s t here twice e one other =
    passed _ _ e λ v found rest.
    chose (holds v) _ _ rest
    (λ y last. one (rw (sym (ok_same last)) (refl, refl, asserted_at sc l (flipped (go_to (past s.forward l) s)) v found y ∙ returns l (past s.forward l) s here)))
    (λ n more.
    passed _ _ more λ w mates rest.
    held _ _ _ rest λ m last.
    other (rw (sym (ok_same last)) (
      refl,
      refl,
      branched_past sc (partner sc.lines l) (flipped (go_to (past s.forward (partner sc.lines l)) s)) w mates v (not_true _ m) (rw twice found) n
          ∙ rw twice (returns l (past s.forward (partner sc.lines l)) s here),
    )))

-- add, subtract, xor
module _ (sc : Script) (l : ℕ) (f g : ℤ → ℤ → ℤ) where
  changed_at : (s : State) (v : ℤ) (u : Spot) → value sc s l ≡ Ok v → find s (line sc l s).x ≡ Ok u → changed sc l s f ≡ go l (write u (f (read s u) v) s)
  unfolding ◌>>=◌
  changed_at s v u e h = rw (e, h)

module _ (sc : Script) (l : ℕ) (f g : ℤ → ℤ → ℤ) (s t : State) (d : ℕ) (here : At l s) where
  abbrev x : Place
  x = (line_at sc.lines l).x

  abbrev ts : List Term
  ts = terms_of sc.terms (line_at sc.lines l)

  value_kept : (u : Spot) (w : ℤ) → known x ≡ true → AllByRecursion (Sound d) ts → names x ts ≡ false → find s x ≡ Ok u
      → value sc (write u w s) l ≡ value sc s l
  value_kept u w k h n e = worked_same (see (write u w s)) (see s) ts [] (unnamed s x u w d ts k e h n)

  written_back : (u : Spot) (v : ℤ) → g (f (read s u) v) v ≡ read s u
      → (let t = go_to (past s.forward l) (write u (f (read s u) v) s) in go l (write u (g (read (flipped t) u) v) (flipped t)) ≡ Ok (flipped s))
  written_back (InBook i) v undo =
      ap₂ {C = Result State Refusal} (λ p b. Ok (go_to p (with_book b (flipped s)))) (sym here) (put_back s.book i (λ a. g a v) (f (read s (InBook i)) v) undo)
  written_back (InLocals i) v undo =
      ap₂ {C = Result State Refusal} (λ p b. Ok (go_to p (with_locals b (flipped s)))) (sym here) (put_back s.locals i (λ a. g a v) (f (read s (InLocals i)) v) undo)

  pub changed_back : known x ≡ true → AllByRecursion (Sound d) ts → names x ts ≡ false
      → ((v : ℤ) (u : Spot) → find s x ≡ Ok u → g (f (read s u) v) v ≡ read s u)
      → changed sc l s f ≡ Ok t → Undone (λ c. changed sc l c g) l s t
  changed_back k h n undo e =
      passed _ _ e λ v val rest.
      passed _ _ rest λ u spot last.
      rw (sym (ok_same last)) (
        refl,
        refl,
        changed_at sc l g f (flipped (go_to (past s.forward l) (write u (f (read s u) v) s))) v u (value_kept u (f (read s u) v) k h n spot ∙ val) spot
            ∙ written_back u v (undo v u spot),
      )
