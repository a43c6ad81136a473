-- The machine of an allowed script keeps the laws of one step.
use Rattle.std.proofs.Common.{◌≡◌, ℕ, Bool, true, false, cond, not, T, eqb, List, [], ◌∷◌, length, ℤ, Ok, Err, Result, sym, refl, ap, ◌∙◌, subst, ap₂, arith}
use Rattle.std.proofs.lemmas.List.{nil_from_length}
use Rattle.std.proofs.lemmas.Bool.{and_parts, and_from, eqb-true, eq-eqb}
use Rattle.reversible.specs.Machine.{Lawful, Dir, fwd, bwd, other, Next, finish, go, stop}
use Rattle.rules.specs.Answer.{either}
use Rattle.rules.specs.Book.{is_book, records}
use Rattle.rules.specs.Script.{Script, line_at, has_method, where_is, turned_kind}
use Rattle.rules.specs.Check.{checked, depth}
use Rattle.rules.specs.Step.{State, step, finished, flipped, turn_of, kind_met, entry, across, base}
use Rattle.rules.specs.declared.Frame.{Frame}
use Rattle.rules.specs.Run.{ahead, start, next, machine}
use Rattle.laws.proofs.Nest.{at_open, at_close}
use Rattle.laws.proofs.Moving.{moving}
use Rattle.laws.proofs.Stack.{stack_at}
use Rattle.laws.proofs.Turning.{turn_past}
use Rattle.laws.proofs.Inside.{In}
use Rattle.laws.proofs.Methods.{Method, method_of, entered_in}
use Rattle.laws.proofs.Fit.{cur, way, Chain, Fit, turn_at, turn_in}
use Rattle.laws.proofs.Keep.{at_return, step_kept}
use Rattle.laws.proofs.Asked.{step_back}
use Rattle.rules.specs.declared.Refusal.{Refusal}
use Rattle.reversible.specs.Ledger.{accepted}

pub is_true : (b : Bool) → T b → b ≡ true
is_true true t = refl
is_true false t = absurd t

pub to_t : (b : Bool) → b ≡ true → T b
to_t b e = subst T (sym e) tt

not_not : (b : Bool) → not (not b) ≡ b
not_not true = refl
not_not false = refl

pub ahead_other : (d : Dir) → ahead (other d) ≡ not (ahead d)
ahead_other fwd = refl
ahead_other bwd = refl

-- ---- the next state

next_go : (sc : Script) (s t : State) → next sc s ≡ go t → step sc s ≡ Ok t
next_go sc s t e = by (finished sc s) (step sc s) e
  where
    by : (b : Bool) (r : Result State Refusal) → elim b as (λ _. Next State Refusal) [ true ↦ finish | false ↦ either r go stop ] ≡ go t → r ≡ Ok t
    by true r e = absurd (let z : ◌≡◌ {A = ℕ} 0 1 = cc in omega arith)
    by false (Ok u) e = cc
    by false (Err n) e = absurd (let z : ◌≡◌ {A = ℕ} 0 1 = cc in omega arith)

pub next_from : (sc : Script) (s t : State) → step sc s ≡ Ok t → next sc s ≡ go t
next_from sc s t e =
    ap₂ (λ b r. elim b as (λ _. Next State Refusal) [ true ↦ finish | false ↦ either r go stop ]) (moving sc s t e) e

next_finish : (sc : Script) (s : State) → next sc s ≡ finish → finished sc s ≡ true
next_finish sc s e = by (finished sc s) (step sc s) e
  where
    by : (b : Bool) (r : Result State Refusal) → elim b as (λ _. Next State Refusal) [ true ↦ finish | false ↦ either r go stop ] ≡ finish → b ≡ true
    by true r e = refl
    by false (Ok u) e = absurd (let z : ◌≡◌ {A = ℕ} 0 1 = cc in omega arith)
    by false (Err n) e = absurd (let z : ◌≡◌ {A = ℕ} 0 1 = cc in omega arith)

pub next_end : (sc : Script) (s : State) → finished sc s ≡ true → next sc s ≡ finish
next_end sc s e = ap (λ b. elim b as (λ _. Next State Refusal) [ true ↦ finish | false ↦ either (step sc s) go stop ]) e

across_not : (k : ℕ) (b : Bool) → across k (not b) ≡ not (across k b)
across_not k b = by (eqb k 17)
  where
    by : (e : Bool) → cond e (not (not b)) (not b) ≡ not (cond e (not b) b)
    by true = refl
    by false = refl

way_other : (sc : Script) (d : Bool) (fs : List Frame) → way sc (not d) fs ≡ not (way sc d fs)
way_other sc d [] = refl
way_other sc d (f ∷ fs) = let k = (line_at sc.lines f.line).kind in ap (across k) (way_other sc d fs) ∙ across_not k (way sc d fs)

module _ (sc : Script) (ok : checked sc ≡ accepted) where
  abbrev pub Inv : ℕ → Dir → State → Type 0
  Inv q d s = Fit sc q (ahead d) s

  enters : (q : ℕ) (d : Bool) (a : List ℤ) → is_book a ≡ true → has_method sc.lines q ≡ true → Fit sc q d (start sc d q a)
  enters q d a is h =
      let (high, within, none) = entered_in sc ok q (method_of sc ok q h) d in
      record { high = high; within = within; heads = refl; deep = omega arith; few = omega arith; chain = refl; book = is; words = tt }

  flips : (q : ℕ) (d : Bool) (s : State) → Fit sc q d s → Fit sc q (not d) (flipped s)
  flips q d s F =
      record { high = F.high; within = F.within; heads = ap not F.heads ∙ sym (way_other sc d s.frames); deep = F.deep; few = F.few; chain = F.chain; book = F.book; words = F.words }

  -- turned round at its start, a method is finished
  starts_at : (q : ℕ) (d : Bool) (a : List ℤ) → has_method sc.lines q ≡ true → finished sc (flipped (start sc d q a)) ≡ true
  starts_at q d a h = and_from _ _ (eq-eqb _ 1 (by (method_of sc ok q h) d)) refl
    where
      by : Method sc ok q → (d : Bool) → kind_met sc (flipped (start sc d q a)) ≡ 1
      by m true =
          ap (λ i. turned_kind (line_at sc.lines i).kind) (turn_past true (where_is 0 q sc.lines) ∙ m.first) ∙ ap (λ x. turned_kind x.kind) (at_open sc.lines m.pair) ∙ ap turned_kind m.begins
      by m false = ap (λ i. (line_at sc.lines i).kind) m.last ∙ ap (λ x. x.kind) (at_close sc.lines m.pair) ∙ m.ends

  ends_at : (q : ℕ) (d : Bool) (s : State) → Fit sc q d s → finished sc s ≡ true → flipped s ≡ start sc (not d) q s.book
  ends_at q d s F h =
      let (one, none) = and_parts (eqb (kind_met sc s) 1) (eqb (length s.frames) 0) h in
      let k : kind_met sc s ≡ 1 = eqb-true (kind_met sc s) 1 one in
      let fs : s.frames ≡ [] = nil_from_length s.frames (eqb-true (length s.frames) 0 none) in
      let here = turn_at sc ok q d s F in
      let m : cur sc q s.frames ≡ q = ap (cur sc q) fs in
      let (flat, place) = at_return sc ok (turn_of s) (cur sc q s.frames) (turn_in sc ok q d s F) s.forward k (subst (λ p. In (cur sc q s.frames) (stack_at sc.lines p)) here F.within) in
      let heads : s.forward ≡ d = F.heads ∙ ap (way sc d) fs in
      let at : s.position ≡ entry sc (not d) q = here ∙ sym place ∙ ap₂ (λ b x. entry sc (not b) x) heads m in
      let bare : base s.frames ≡ 0 = ap base fs in
      let level : depth (stack_at sc.lines s.position) ≡ 0 = ap (λ p. depth (stack_at sc.lines p)) here ∙ flat in
      let empty : s.locals ≡ [] = nil_from_length s.locals (let e = F.deep in omega arith) in
      let absent : s.present ≡ 0 = subst (λ gs. Chain sc q (records s.book) gs s.present) fs F.chain in
      λ i. record { position = at i; forward = not (heads i); present = absent i; locals = empty i; frames = fs i; book = s.book }

  pub lawful : Lawful (machine sc) Inv
  lawful = record {
    inv_enter = λ q d a t h. enters q (ahead d) a (is_true _ t) (is_true _ h);
    inv_step = λ q d s t F e. step_kept sc ok q (ahead d) s t F (next_go sc s t e);
    inv_flip = λ q d s F. subst (λ x. Fit sc q x (flipped s)) (sym (ahead_other d)) (flips q (ahead d) s F);
    inv_book = λ q d s F. to_t _ F.book;
    flip_flip = λ q d s F. ap (λ b. record { position = s.position; forward = b; present = s.present; locals = s.locals; frames = s.frames; book = s.book }) (not_not s.forward);
    book_flip = λ s. refl;
    book_enter = λ q d a. refl;
    reverse = λ q d s t F e. next_from sc (flipped t) (flipped s) (step_back sc ok q (ahead d) s t F (next_go sc s t e));
    starts = λ q d a t h. next_end sc (flipped (start sc (ahead d) q a)) (starts_at q (ahead d) a (is_true _ h));
    ends = λ q d s F e. ends_at q (ahead d) s F (next_finish sc s e) ∙ ap (λ b. start sc b q s.book) (sym (ahead_other d));
  }
