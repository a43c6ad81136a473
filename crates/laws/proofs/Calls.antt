-- A call and the return from it undo one another.
use Rattle.std.proofs.Common.{◌≡◌, ℕ, ◌<◌, Bool, true, false, cond, not, eqb, List, ◌∷◌, length, pos, Ok, Result, sym, refl, ap, ◌∙◌, ap₂}
use Rattle.std.proofs.lemmas.Bool.{ltb-true, lt-ltb, cond-true}
use Rattle.rules.specs.Answer.{◌>>=◌, need}
use Rattle.rules.specs.Book.{named}
use Rattle.rules.specs.Script.{Script, line_at, is_none}
use Rattle.rules.specs.Step.{State, find, read, past, go_to, entry, flipped, callee, holding, across, caller, entered, left, returned}
use Rattle.rules.specs.declared.Spot.{Spot}
use Rattle.rules.specs.declared.Frame.{Frame}
use Rattle.rules.specs.declared.Place.{Place}
use Rattle.rules.specs.declared.Line.{Line}
use Rattle.laws.proofs.Chains.{ok_same, passed, held, chose, needed}
use Rattle.laws.proofs.Cells.{eq_z_true, eq_z_from, named_is}
use Rattle.laws.proofs.Back.{At}
use Rattle.rules.specs.declared.Refusal.{Refusal}

module _ (s : State) (y : Place) (k : ℕ) where
  holding_none : is_none y ≡ true → holding s y k ≡ Ok tt
  holding_none none = cond-true (is_none y) _ _ none

  holding_at : (u : Spot) → is_none y ≡ false → find s y ≡ Ok u → read s u ≡ pos k → holding s y k ≡ Ok tt
  unfolding ◌>>=◌ need
  holding_at u some at is = rw (some, at, eq_z_from (read s u) (pos k) is)

  callee_none : is_none y ≡ true → callee s y ≡ Ok s.present
  callee_none none = cond-true (is_none y) _ _ none

  callee_at : (u : Spot) → is_none y ≡ false → find s y ≡ Ok u → read s u ≡ pos k → 0 < k → named s.book (pos k) ≡ k → callee s y ≡ Ok k
  unfolding ◌>>=◌ need
  callee_at u some at is more real = rw (some, at, is, real, lt-ltb 0 k more)

  holding_from : callee s y ≡ Ok k → holding s y k ≡ Ok tt
  holding_from e = chose (is_none y) _ _ e
      (λ none _. holding_none none)
      (λ some more.
      passed _ _ more λ u at rest.
      held _ _ _ rest λ names same.
      holding_at u some at ((named_is s.book (read s u) (ltb-true 0 _ names)).0 ∙ ap pos (ok_same same)))

  callee_from : {v : Unit {0}} → (is_none y ≡ true → k ≡ s.present) → (is_none y ≡ false → (0 < k) × (named s.book (pos k) ≡ k))
      → holding s y k ≡ Ok v → callee s y ≡ Ok k
  callee_from mine other e = chose (is_none y) _ _ e
      (λ none _. callee_none none ∙ ap {B = Result ℕ Refusal} Ok (sym (mine none)))
      (λ some more.
      passed _ _ more λ u at test.
      let (least, real) = other some in
      callee_at u some at (eq_z_true (read s u) (pos k) (needed _ _ test)) least real)

pub across_twice : (kind : ℕ) (fw : Bool) → across kind (not (across kind fw)) ≡ not fw
across_twice kind fw = by (eqb kind 17) fw
  where
    by : (b fw : Bool) → cond b (not (not (cond b (not fw) fw))) (not (cond b (not fw) fw)) ≡ not fw
    by true true = refl
    by true false = refl
    by false true = refl
    by false false = refl

left_at : (sc : Script) (m : ℕ) (s : State) (f : Frame) (fs : List Frame) → holding (caller sc f fs s) (line_at sc.lines f.line).y s.present ≡ Ok tt
    → left sc m s f fs ≡ Ok (caller sc f fs s)
unfolding ◌>>=◌
left_at sc m s f fs h = rw h

module _ (sc : Script) (l : ℕ) (s : State) where
  abbrev c : Line
  c = line_at sc.lines l

  abbrev frame : Frame
  frame = record { line = l; former = s.present; count = length s.locals }

  entered_at : (fw : Bool) (k : ℕ) → length s.frames < 64 → callee s c.y ≡ Ok k
      → entered sc l s fw ≡ Ok (record { position = entry sc fw c.q; forward = fw; present = k; locals = s.locals; frames = frame ∷ s.frames; book = s.book })
  unfolding ◌>>=◌ need
  entered_at fw k few is = rw (lt-ltb _ 64 few, is)

  -- a call, and the return from it at line m
  pub entered_back : (m : ℕ) (t : State) → At l s → entered sc l s (across c.kind s.forward) ≡ Ok t → returned sc m (flipped t) t.frames ≡ Ok (flipped s)
  entered_back m t here e =
      held _ _ _ e λ few rest.
      passed _ _ rest λ k is last.
      let t' = flipped (record { position = entry sc (across c.kind s.forward) c.q; forward = across c.kind s.forward; present = k; locals = s.locals; frames = frame ∷ s.frames; book = s.book }) in
      rw (sym (ok_same last))
      (left_at sc m t' frame s.frames (holding_from s c.y k is)
      ∙ ap {B = Result State Refusal} (λ fw. Ok (record { position = past fw l; forward = fw; present = s.present; locals = s.locals; frames = s.frames; book = s.book })) (across_twice c.kind s.forward)
      ∙ ap {B = Result State Refusal} (λ p. Ok (go_to p (flipped s))) (sym here))

module _ (sc : Script) (l : ℕ) (s : State) where
  -- a return at line l, and the call that it came from
  pub left_back : (t : State) (f : Frame) (fs : List Frame) → s.frames ≡ f ∷ fs → f.count ≡ length s.locals → length fs < 64
      → (let y = (line_at sc.lines f.line).y in (is_none y ≡ true → s.present ≡ f.former) × (is_none y ≡ false → (0 < s.present) × (named s.book (pos s.present) ≡ s.present)))
      → entry sc (not s.forward) (line_at sc.lines f.line).q ≡ s.position
      → left sc l s f fs ≡ Ok t
      → entered sc f.line (flipped t) (across (line_at sc.lines f.line).kind (not t.forward)) ≡ Ok (flipped s)
  left_back t f fs tops counts few mine place e =
      passed _ _ e λ v still last.
      let d = line_at sc.lines f.line in
      let c' = flipped (caller sc f fs s) in
      rw (sym (ok_same last))
      (entered_at sc f.line c' (across d.kind (not (caller sc f fs s).forward)) s.present few (callee_from c' d.y s.present mine.0 mine.1 still)
      ∙ ap {B = Result State Refusal} (λ fw. Ok (record { position = entry sc fw d.q; forward = fw; present = s.present; locals = s.locals; frames = record { line = f.line; former = f.former; count = length s.locals } ∷ fs; book = s.book }))
      (across_twice d.kind s.forward)
      ∙ ap₂ {C = Result State Refusal} (λ p gs. Ok (record { position = p; forward = not s.forward; present = s.present; locals = s.locals; frames = gs; book = s.book })) place
      (ap {B = List Frame} (λ n. record { line = f.line; former = f.former; count = n } ∷ fs) (sym counts) ∙ sym tops))
