-- The law of steps: a step made, and one more with the direction turned round, lead back to the state turned round.
-- What it asks of a state is listed kind by kind in the order of the rules.
use Rattle.std.proofs.Common.{◌≡◌, ℕ, suc, ◌+◌, ◌-◌, ◌<◌, ◌≤◌, Bool, true, false, cond, not, ◌⊎◌, List, [], ◌∷◌, length, get_or, pos, ◌+ℤ◌, ◌-ℤ◌, Ok, Err, Result, sym, refl, ap, ◌∙◌, ap₂, ⊎_elim, arith, w32, SFits}
use lib.Bits.{bit_xor}
use Rattle.std.specs.List.{AllByRecursion}
use Rattle.std.proofs.lemmas.Bool.{cases_lt}
use Rattle.std.proofs.lemmas.List.{get_or_past}
use Rattle.rules.specs.Word.{word, on_bits}
use Rattle.rules.specs.Book.{named}
use Rattle.rules.specs.Script.{Script, line_at, terms_of, partner, where_is, is_none, turned_kind}
use Rattle.rules.specs.Check.{known, names}
use Rattle.rules.specs.Step.{State, find, read, base, entry, turn_of, met, kind_met, rules, rule, step, flipped, across, entered, returned}
use Rattle.rules.specs.declared.Spot.{Spot}
use Rattle.rules.specs.declared.Frame.{Frame}
use Rattle.rules.specs.declared.Spot.TheVariants.{InBook}
use Rattle.rules.specs.declared.Line.{Line}
use Rattle.laws.proofs.Chains.{ok_err, ok_same, passed, held}
use Rattle.laws.proofs.Words.{add_undone, sub_undone, xor_undone}
use Rattle.laws.proofs.Places.{Sound}
use Rattle.laws.proofs.Lens.{Within}
use Rattle.laws.proofs.Back.{At, Undone, asserted_branched, branched_back, changed_back}
use Rattle.laws.proofs.Records.{allocated_back, freed_back}
use Rattle.laws.proofs.Copies.{copied_back, uncopied_back, swapped_back}
use Rattle.laws.proofs.Locals.{opened_back, closed_back}
use Rattle.laws.proofs.Calls.{entered_back, left_back}
use Rattle.laws.proofs.Turning.{Each, each_at, turned_twice, met_turned, turn_past}
use Rattle.rules.specs.declared.Refusal.{Refusal}
use Rattle.rules.specs.declared.Refusal.TheVariants.{Unknown}

-- ---- what each kind asks

module _ (sc : Script) (l : ℕ) (s : State) where
  abbrev ln : Line
  ln = line_at sc.lines l

  abbrev pub Nothing : Type 0
  Nothing = Unit {0}

  -- x is not named in the expression, whose locals are open, and holds a word
  pub record Changes : Type 0 where
    pub depth : ℕ
    pub place : known ln.x ≡ true
    pub terms : AllByRecursion (Sound depth) (terms_of sc.terms ln)
    pub apart : names ln.x (terms_of sc.terms ln) ≡ false
    pub word : (u : Spot) → find s ln.x ≡ Ok u → SFits w32 (read s u)

  -- the other line of the pair is of the turned kind, and its other line is this one
  pub record Pairs : Type 0 where
    pub twice : partner sc.lines (partner sc.lines l) ≡ l
    pub kind : met (not s.forward) (line_at sc.lines (partner sc.lines l)).kind ≡ met s.forward ln.kind

  pub record Opens : Type 0 where
    pub depth : ℕ
    pub terms : AllByRecursion (Sound depth) (terms_of sc.terms ln)
    pub opened : length s.locals ≡ base s.frames + depth

  pub record Closes : Type 0 where
    pub depth : ℕ
    pub terms : AllByRecursion (Sound depth) (terms_of sc.terms ln)
    pub opened : length s.locals ≡ base s.frames + suc depth
    pub few : length s.locals ≤ 256

  pub record Refers : Type 0 where
    pub inside : (u : Spot) → find s ln.x ≡ Ok u → (w : ℕ) × (u ≡ InBook w) × (0 < w) × (w < length s.book)

  pub record Two : Type 0 where
    pub inside : (u w : Spot) → find s ln.x ≡ Ok u → find s ln.y ≡ Ok w → Within s u × Within s w

  pub record Distinct : Type 0 where
    pub two : Two
    pub apart : (u w : Spot) → find s ln.x ≡ Ok u → find s ln.y ≡ Ok w → u ≡ w → ⊥

  -- the method that is called exists
  pub record Calls : Type 0 where
    pub exists : (fw : Bool) → met (not fw) (line_at sc.lines (where_is (met fw 0) ln.q sc.lines)).kind ≡ 1

  pub record Returns : Type 0 where
    pub frame : (f : Frame) (fs : List Frame) → s.frames ≡ f ∷ fs
        → (let c = line_at sc.lines f.line in
        (f.count ≡ length s.locals) × (length fs < 64)
        × ((is_none c.y ≡ true → s.present ≡ f.former) × (is_none c.y ≡ false → (0 < s.present) × (named s.book (pos s.present) ≡ s.present)))
        × (entry sc (not s.forward) c.q ≡ s.position)
        × ((c.kind ≡ 16) ⊎ (c.kind ≡ 17)))

abbrev pub asks : List (Script → ℕ → State → Type 0)
asks =
    (λ _ _ _. Unit {0}) ∷ Returns ∷ Changes ∷ Changes ∷ Pairs ∷ (λ _ _ _. Unit {0}) ∷ (λ _ _ _. Unit {0}) ∷ Pairs ∷ Opens ∷ Closes ∷ Refers ∷ Refers
    ∷ Distinct ∷ Distinct ∷ Changes ∷ Two ∷ Calls ∷ Calls ∷ []

abbrev pub Asks : ℕ → Script → ℕ → State → Type 0
Asks k = get_or asks k (λ _ _ _. Unit {0})

-- ---- from rules to steps

pub stepped : (sc : Script) (s : State) (l j : ℕ) → turn_of s ≡ l → met s.forward (line_at sc.lines l).kind ≡ j → step sc s ≡ rule j sc l s
unfolding step
stepped sc s l j e h = ap (λ m. rule (met s.forward (line_at sc.lines m).kind) sc m s) e ∙ ap (λ k. rule k sc l s) h

abbrev pub Back : Script → State → State → Type 0
Back sc s t = step sc (flipped t) ≡ Ok (flipped s)

-- back by the line m, which is met as kind j then
by_line : (sc : Script) (m j : ℕ) (s t : State) → met (not s.forward) (line_at sc.lines m).kind ≡ j → Undone (rule j sc m) m s t → Back sc s t
by_line sc m j s t h undone =
    let (same, at, back) = undone in
    stepped sc (flipped t) m j (ap₂ (λ fw p. cond (not fw) p (p - 1)) same at ∙ turn_past s.forward m) (ap (λ fw. met (not fw) (line_at sc.lines m).kind) same ∙ h) ∙ back

abbrev Law : Script → ℕ → Type 0
Law sc k = (l : ℕ) (s t : State) → At l s → met s.forward (line_at sc.lines l).kind ≡ k → Asks k sc l s → rule k sc l s ≡ Ok t → Back sc s t

-- the same line, turned
turn : (sc : Script) (l k : ℕ) (s : State) → met s.forward (line_at sc.lines l).kind ≡ k → met (not s.forward) (line_at sc.lines l).kind ≡ turned_kind k
turn sc l k s h = met_turned s.forward (line_at sc.lines l).kind ∙ ap turned_kind h

law_5 : (sc : Script) → Law sc 5
law_5 sc l s t here h _ e = by_line sc l 4 s t (turn sc l 5 s h) (asserted_branched sc l s t here e)

law_6 : (sc : Script) → Law sc 6
law_6 sc l s t here h _ e = by_line sc l 7 s t (turn sc l 6 s h) (asserted_branched sc l s t here e)

law_4 : (sc : Script) → Law sc 4
law_4 sc l s t here h asked e =
    branched_back sc l s t here asked.twice e (by_line sc l 5 s t (turn sc l 4 s h)) (by_line sc (partner sc.lines l) 4 s t (asked.kind ∙ h))

law_7 : (sc : Script) → Law sc 7
law_7 sc l s t here h asked e =
    branched_back sc l s t here asked.twice e (by_line sc l 6 s t (turn sc l 7 s h)) (by_line sc (partner sc.lines l) 7 s t (asked.kind ∙ h))

law_2 : (sc : Script) → Law sc 2
law_2 sc l s t here h asked e =
    by_line sc l 3 s t (turn sc l 2 s h)
    (changed_back sc l (λ a b. word (a +ℤ b)) (λ a b. word (a -ℤ b)) s t asked.depth here asked.place asked.terms asked.apart (λ v u at. add_undone (read s u) v (asked.word u at)) e)

law_3 : (sc : Script) → Law sc 3
law_3 sc l s t here h asked e =
    by_line sc l 2 s t (turn sc l 3 s h)
    (changed_back sc l (λ a b. word (a -ℤ b)) (λ a b. word (a +ℤ b)) s t asked.depth here asked.place asked.terms asked.apart (λ v u at. sub_undone (read s u) v (asked.word u at)) e)

law_14 : (sc : Script) → Law sc 14
law_14 sc l s t here h asked e =
    by_line sc l 14 s t (turn sc l 14 s h)
    (changed_back sc l (on_bits bit_xor) (on_bits bit_xor) s t asked.depth here asked.place asked.terms asked.apart (λ v u at. xor_undone (read s u) v (asked.word u at)) e)

law_8 : (sc : Script) → Law sc 8
law_8 sc l s t here h asked e = by_line sc l 9 s t (turn sc l 8 s h) (opened_back sc l s t asked.depth here asked.terms asked.opened e)

law_9 : (sc : Script) → Law sc 9
law_9 sc l s t here h asked e = by_line sc l 8 s t (turn sc l 9 s h) (closed_back sc l s t asked.depth here asked.terms asked.opened asked.few e)

law_10 : (sc : Script) → Law sc 10
law_10 sc l s t here h asked e =
    passed _ _ e λ u at _.
    let (w, is, low, high) = asked.inside u at in
    by_line sc l 11 s t (turn sc l 10 s h) (allocated_back sc l s t w here (at ∙ ap {B = Result Spot Refusal} Ok is) low high e)

law_11 : (sc : Script) → Law sc 11
law_11 sc l s t here h asked e =
    passed _ _ e λ u at _.
    let (w, is, low, high) = asked.inside u at in
    by_line sc l 10 s t (turn sc l 11 s h) (freed_back sc l s t w here (at ∙ ap {B = Result Spot Refusal} Ok is) low high e)

law_12 : (sc : Script) → Law sc 12
law_12 sc l s t here h asked e =
    passed _ _ e λ u first rest.
    passed _ _ rest λ w second _.
    let (in₁, in₂) = asked.two.inside u w first second in
    by_line sc l 13 s t (turn sc l 12 s h) (copied_back sc l s t u w here first second in₁ in₂ (asked.apart u w first second) e)

law_13 : (sc : Script) → Law sc 13
law_13 sc l s t here h asked e =
    passed _ _ e λ u first rest.
    passed _ _ rest λ w second _.
    let (in₁, in₂) = asked.two.inside u w first second in
    by_line sc l 12 s t (turn sc l 13 s h) (uncopied_back sc l s t u w here first second in₁ in₂ (asked.apart u w first second) e)

law_15 : (sc : Script) → Law sc 15
law_15 sc l s t here h asked e =
    passed _ _ e λ u first rest.
    passed _ _ rest λ w second _.
    let (in₁, in₂) = asked.inside u w first second in
    by_line sc l 15 s t (turn sc l 15 s h) (swapped_back sc l s t u w here first second in₁ in₂ e)

-- the kinds that turning leaves alone
pub same_kind : (sc : Script) (l k : ℕ) (s : State) → turned_kind k ≡ k → met s.forward (line_at sc.lines l).kind ≡ k → (line_at sc.lines l).kind ≡ k
same_kind sc l k s stays h = by s.forward h
  where
    by : (fw : Bool) → met fw (line_at sc.lines l).kind ≡ k → (line_at sc.lines l).kind ≡ k
    by true h = h
    by false h = sym (turned_twice (line_at sc.lines l).kind) ∙ ap turned_kind h ∙ stays

-- a call, and the return at the first line of its method
called : (sc : Script) (l k : ℕ) (s t : State) → At l s → (line_at sc.lines l).kind ≡ k → Calls sc l s → entered sc l s (across k s.forward) ≡ Ok t → Back sc s t
called sc l k s t here is asked e =
    let m = where_is (met (across k s.forward) 0) (line_at sc.lines l).q sc.lines in
    let back = entered_back sc l s m t here (rw is e) in
    held _ _ _ e λ few rest.
    passed _ _ rest λ callee at last.
    stepped sc (flipped t) m 1 (rw (sym (ok_same last)) (turn_past (across k s.forward) m)) (rw (sym (ok_same last)) (asked.exists (across k s.forward))) ∙ back

law_16 : (sc : Script) → Law sc 16
law_16 sc l s t here h asked e = called sc l 16 s t here (same_kind sc l 16 s refl h) asked e

law_17 : (sc : Script) → Law sc 17
law_17 sc l s t here h asked e = called sc l 17 s t here (same_kind sc l 17 s refl h) asked e

-- a return, and the call that it came from
pub met_stays : (fw : Bool) (k : ℕ) → turned_kind k ≡ k → met fw k ≡ k
met_stays true k h = refl
met_stays false k h = h

law_1 : (sc : Script) → Law sc 1
law_1 sc l s t here h asked e = by s.frames refl e
  where
    by : (gs : List Frame) → s.frames ≡ gs → returned sc l s gs ≡ Ok t → Back sc s t
    by [] tops e = ok_err e
    by (f ∷ fs) tops e =
        let (counts, few, mine, place, kind) = asked.frame f fs tops in
        let back = left_back sc l s t f fs tops counts few mine place e in
        passed _ _ e λ v still last.
        let at : turn_of (flipped t) ≡ f.line = rw (sym (ok_same last)) (turn_past (across (line_at sc.lines f.line).kind s.forward) f.line) in
        ⊎_elim
        (λ is. stepped sc (flipped t) f.line 16 at (rw is (met_stays (not t.forward) 16 refl)) ∙ (rw is at back))
        (λ is. stepped sc (flipped t) f.line 17 at (rw is (met_stays (not t.forward) 17 refl)) ∙ (rw is at back))
        kind

law_0 : (sc : Script) → Law sc 0
law_0 sc l s t here h asked e = ok_err e

laws : (sc : Script) → Each (Law sc) 0 18
laws sc =
    (law_0 sc, (law_1 sc, (law_2 sc, (law_3 sc, (law_4 sc, (law_5 sc, (law_6 sc, (law_7 sc, (law_8 sc, (law_9 sc, (law_10 sc, (law_11 sc, (law_12 sc, (law_13 sc, (law_14 sc, (law_15 sc, (law_16 sc, (law_17 sc, tt))))))))))))))))))

-- the law of steps
pub steps_back : (sc : Script) (s t : State) → At (turn_of s) s → Asks (kind_met sc s) sc (turn_of s) s → step sc s ≡ Ok t → step sc (flipped t) ≡ Ok (flipped s)
unfolding step
steps_back sc s t here asked e =
    ⊎_elim
    (λ low. each_at (Law sc) 0 18 (kind_met sc s) (laws sc) (omega arith) (omega arith) (turn_of s) s t here refl asked e)
    (λ high. ok_err (ap (λ r. r sc (turn_of s) s) (sym (get_or_past rules (kind_met sc s) (λ _ _ _. Err Unknown) high)) ∙ e))
    (cases_lt (kind_met sc s) 18)
