-- The turned script's machine is the machine seen from the other end.
use Rattle.std.proofs.Common.{◌≡◌, ℕ, ◌+◌, ◌-◌, ◌<◌, ◌≤◌, Bool, true, false, cond, not, ◌&&◌, eqb, ltb, ◌⊎◌, List, [], ◌∷◌, ◌++◌, map, length, get_or, take, set, ℤ, pos, ◌+ℤ◌, ◌-ℤ◌, Ok, Err, Result, sym, refl, ap, ◌∙◌, ap₂, inl, inr, ⊎_elim, arith}
use lib.Bits.{bit_xor}
use lib.ListN.{length-map}
use Rattle.std.proofs.lemmas.List.{get_or_past}
use Rattle.std.proofs.lemmas.Bool.{ltb-true, lt-ltb, cases_lt}
use Rattle.reversible.specs.Machine.{Maps, Any, Dir, fwd, bwd, other, Next, finish, go, stop, map_next}
use Rattle.reversible.specs.Laws.{Turns, Carries}
use Rattle.reversible.proofs.Runs.{restores}
use Rattle.reversible.proofs.Mapped.{carries, turns_round}
use Rattle.rules.specs.Answer.{◌>>=◌, need, either}
use Rattle.rules.specs.Word.{eq_z, word, on_bits}
use Rattle.rules.specs.Book.{record_at, named, clear, records}
use Rattle.rules.specs.Script.{Script, line_at, is_none, turned_kind, turned_line, turned, turned_script, where_is, has_method}
use Rattle.rules.specs.Check.{checked}
use Rattle.rules.specs.Step.{State, inside, find, read, value, past, met, turn_of, kind_met, entry, across, caller, callee, holding, with_book, with_locals, write, rules, rule, step, finished, opened, closed, allocated, freed, copied, uncopied, swapped, entered, left, returned}
use Rattle.rules.specs.declared.Frame.{Frame}
use Rattle.rules.specs.Step as steps
use Rattle.rules.specs.Run.{ahead, start, next, machine}
use Rattle.rules.specs.declared.Line.{Line}
use Rattle.rules.specs.declared.Place.{Place}
use Rattle.laws.proofs.StepBack.{same_kind}
use Rattle.laws.proofs.MirrorState.{mirrored, map_ok, bind_map, line_turned, find_mirrored, value_mirrored, go_mirrored, changed_mirrored, asserted_mirrored, branched_mirrored}
use Rattle.laws.proofs.Nest.{open_at, close_at, at_open, at_close, paired_length, turned_length, turned_append, turned_cons}
use Rattle.laws.proofs.Turning.{Each, each_at, turned_twice}
use Rattle.laws.proofs.Inside.{in_range, partner_in}
use Rattle.laws.proofs.Methods.{block, Method, method_of, calls_method, where_at, where_hit, begin_is, end_is, end_method}
use Rattle.laws.proofs.Fit.{Chain, Fit, turn_in}
use Rattle.laws.proofs.Keep.{bracket_met}
use Rattle.laws.proofs.Lawful.{Inv, lawful, is_true}
use Rattle.rules.specs.declared.Refusal.{Refusal}
use Rattle.rules.specs.declared.Refusal.TheVariants.{Changed, FreeUnfit, NoFree, NoRecord, NotClear, TestFailed, TooDeep, Unknown}
use Rattle.reversible.specs.Ledger.{accepted}

-- ---- turned twice

pub turned_again : (ls : List Line) → turned (turned ls) ≡ ls
turned_again [] = refl
turned_again (l ∷ ls) =
    ap turned (turned_cons l ls) ∙ turned_append (turned ls) (turned_line l ∷ [])
    ∙ ap₂ {C = List Line} (λ k x. record { kind = k; x = l.x; y = l.y; q = l.q; first = l.first; count = l.count } ∷ x) (turned_twice l.kind) (turned_again ls)

-- ---- lines

abbrev frame_of : ℕ → Frame → Frame
frame_of n f = record { line = n - 1 - f.line; former = f.former; count = f.count }

met_mirrored : (fw : Bool) (k : ℕ) → met (not fw) (turned_kind k) ≡ met fw k
met_mirrored true k = turned_twice k
met_mirrored false k = refl

past_mirrored : (fw : Bool) (n l : ℕ) → l < n → past (not fw) (n - 1 - l) ≡ n - past fw l
past_mirrored true n l h = omega arith
past_mirrored false n l h = omega arith

turn_mirrored : (fw : Bool) (n p : ℕ) → 0 < p → cond (not fw) (n - p) (n - p - 1) ≡ n - 1 - cond fw p (p - 1)
turn_mirrored true n p h = omega arith
turn_mirrored false n p h = omega arith

module _ (sc : Script) (l : ℕ) (inside-l : l < length sc.lines) where
  abbrev n : ℕ
  n = length sc.lines

  abbrev there : ℕ
  there = n - 1 - l

  abbrev M : State → State
  M = mirrored n

  abbrev sc' : Script
  sc' = turned_script sc

  abbrev ln : Line
  ln = line_at sc.lines l

  module _ (s : State) where
    x_mirrored : find (M s) (line_at (turned sc.lines) there).x ≡ find s ln.x
    x_mirrored = ap₂ (λ g k. g k.x) (find_mirrored sc l inside-l s) (line_turned sc l inside-l)

    y_mirrored : find (M s) (line_at (turned sc.lines) there).y ≡ find s ln.y
    y_mirrored = ap₂ (λ g k. g k.y) (find_mirrored sc l inside-l s) (line_turned sc l inside-l)

    gone : (c : State) → steps.go there (M c) ≡ map_ok M (steps.go l c)
    gone c = go_mirrored sc l inside-l c

    opened_mirrored : opened sc' there (M s) ≡ map_ok M (opened sc l s)
    opened_mirrored =
        ap (λ r. need (ltb (length s.locals) 256) TooDeep >>= λ _. r >>= λ e. steps.go there (with_locals (s.locals ++ (e ∷ [])) (M s))) (value_mirrored sc l inside-l s)
        ∙ bind_map M (need (ltb (length s.locals) 256) TooDeep) _ _ (λ _. bind_map M (value sc s l) _ _ (λ e. gone (with_locals (s.locals ++ (e ∷ [])) s)))

    closed_mirrored : closed sc' there (M s) ≡ map_ok M (closed sc l s)
    closed_mirrored =
        let m = length s.locals - 1 in
        ap (λ r. r >>= λ e. need (eq_z (get_or s.locals m (pos 0)) e) TestFailed >>= λ _. steps.go there (with_locals (take m s.locals) (M s))) (value_mirrored sc l inside-l s)
        ∙ bind_map M (value sc s l) _ _ (λ e. bind_map M (need (eq_z (get_or s.locals m (pos 0)) e) TestFailed) _ _ (λ _. gone (with_locals (take m s.locals) s)))

    allocated_mirrored : allocated sc' there (M s) ≡ map_ok M (allocated sc l s)
    allocated_mirrored =
        let h = get_or s.book 0 (pos 0) in
        let k = named s.book h in
        let b = set (set s.book 0 (get_or s.book (record_at k + 7) (pos 0))) (record_at k + 7) (pos 0) in
        ap (λ r. r >>= λ x. need (eq_z (read s x) (pos 0)) NotClear >>= λ _. need (not (eq_z h (pos 0))) NoFree >>= λ _. need (ltb 0 k && (not (inside x k) && clear s.book 7 k)) FreeUnfit >>= λ _. steps.go there (write x (pos k) (with_book b (M s)))) x_mirrored
        ∙ bind_map M (find s ln.x) _ _ (λ x. bind_map M (need (eq_z (read s x) (pos 0)) NotClear) _ _ (λ _. bind_map M (need (not (eq_z h (pos 0))) NoFree) _ _ (λ _.
        bind_map M (need (ltb 0 k && (not (inside x k) && clear s.book 7 k)) FreeUnfit) _ _ (λ _. gone (write x (pos k) (with_book b s))))))

    freed_mirrored : freed sc' there (M s) ≡ map_ok M (freed sc l s)
    freed_mirrored =
        ap (λ r. r >>= λ x. need (ltb 0 (named s.book (read s x))) NoRecord >>= λ _. need (clear s.book 8 (named s.book (read s x))) NotClear >>= λ _.
        steps.go there (write x (pos 0) (with_book (set (set s.book (record_at (named s.book (read s x)) + 7) (get_or s.book 0 (pos 0))) 0 (pos (named s.book (read s x)))) (M s)))) x_mirrored
        ∙ bind_map M (find s ln.x) _ _ (λ x. bind_map M (need (ltb 0 (named s.book (read s x))) NoRecord) _ _ (λ _. bind_map M (need (clear s.book 8 (named s.book (read s x))) NotClear) _ _ (λ _.
        gone (write x (pos 0) (with_book (set (set s.book (record_at (named s.book (read s x)) + 7) (get_or s.book 0 (pos 0))) 0 (pos (named s.book (read s x)))) s)))))

    copied_mirrored : copied sc' there (M s) ≡ map_ok M (copied sc l s)
    copied_mirrored =
        ap₂ (λ r q. r >>= λ x. q >>= λ y. need (eq_z (read s y) (pos 0)) NotClear >>= λ _. steps.go there (write y (read s x) (M s))) x_mirrored y_mirrored
        ∙ bind_map M (find s ln.x) _ _ (λ x. bind_map M (find s ln.y) _ _ (λ y. bind_map M (need (eq_z (read s y) (pos 0)) NotClear) _ _ (λ _. gone (write y (read s x) s))))

    uncopied_mirrored : uncopied sc' there (M s) ≡ map_ok M (uncopied sc l s)
    uncopied_mirrored =
        ap₂ (λ r q. r >>= λ x. q >>= λ y. need (eq_z (read s y) (read s x)) NotClear >>= λ _. steps.go there (write y (pos 0) (M s))) x_mirrored y_mirrored
        ∙ bind_map M (find s ln.x) _ _ (λ x. bind_map M (find s ln.y) _ _ (λ y. bind_map M (need (eq_z (read s y) (read s x)) NotClear) _ _ (λ _. gone (write y (pos 0) s))))

    swapped_mirrored : swapped sc' there (M s) ≡ map_ok M (swapped sc l s)
    swapped_mirrored =
        ap₂ (λ r q. r >>= λ x. q >>= λ y. steps.go there (write y (read s x) (write x (read s y) (M s)))) x_mirrored y_mirrored
        ∙ bind_map M (find s ln.x) _ _ (λ x. bind_map M (find s ln.y) _ _ (λ y. gone (write y (read s x) (write x (read s y) s))))

-- ---- methods

-- the only line of a kind and a method is found from the other end too
where_turned : (sc : Script) (k q i : ℕ) → i < length sc.lines → (line_at sc.lines i).kind ≡ turned_kind k → (line_at sc.lines i).q ≡ q
    → ((j : ℕ) → j < length sc.lines → (line_at sc.lines j).kind ≡ turned_kind k → (line_at sc.lines j).q ≡ q → j ≡ i)
    → where_is k q (turned sc.lines) ≡ length sc.lines - 1 - i
where_turned sc k q i h kind name only =
    let ls = sc.lines in
    let n = length ls in
    let size = turned_length ls in
    let j = n - 1 - i in
    let at : line_at (turned ls) j ≡ turned_line (line_at ls i) = line_turned sc i h in
    let w = where_is k q (turned ls) in
    let low : w ≤ j = where_hit k q (turned ls) j (omega arith) (ap (λ x. x.kind) at ∙ ap turned_kind kind ∙ turned_twice k) (ap (λ x. x.q) at ∙ name) in
    let (wk, wq) = where_at k q (turned ls) (omega arith) in
    let m = n - 1 - w in
    let back : n - 1 - m ≡ w = omega arith in
    let from : line_at (turned ls) w ≡ turned_line (line_at ls m) = ap (line_at (turned ls)) (sym back) ∙ line_turned sc m (omega arith) in
    let is : m ≡ i = only m (omega arith) (sym (turned_twice (line_at ls m).kind) ∙ ap turned_kind (sym (ap (λ x. x.kind) from) ∙ wk)) (sym (ap (λ x. x.q) from) ∙ wq) in
    omega arith

both : (b c : Bool) → (b ≡ true → c ≡ true) → (c ≡ true → b ≡ true) → b ≡ c
both true c f g = sym (f refl)
both false true f g = g refl
both false false f g = refl

module _ (sc : Script) (ok : checked sc ≡ accepted) where
  module _ (q : ℕ) (m : Method sc ok q) where
    open_low : open_at sc.lines m.pair < length sc.lines
    open_low = omega (arith, paired_length sc.lines m.pair)

    close_low : close_at sc.lines m.pair < length sc.lines
    close_low = omega (arith, paired_length sc.lines m.pair)

    pub begin_turned : where_is 0 q (turned sc.lines) ≡ length sc.lines - 1 - close_at sc.lines m.pair
    begin_turned =
        where_turned sc 0 q (close_at sc.lines m.pair) close_low (ap (λ x. x.kind) (at_close sc.lines m.pair) ∙ m.ends) (ap (λ x. x.q) (at_close sc.lines m.pair) ∙ m.closing)
        (λ j h k e. sym (end_is sc ok j h k) ∙ ap (λ x. where_is 1 x sc.lines) e ∙ m.last)

    end_turned : where_is 1 q (turned sc.lines) ≡ length sc.lines - 1 - open_at sc.lines m.pair
    end_turned =
        where_turned sc 1 q (open_at sc.lines m.pair) open_low (ap (λ x. x.kind) (at_open sc.lines m.pair) ∙ m.begins) (ap (λ x. x.q) (at_open sc.lines m.pair) ∙ m.opening)
        (λ j h k e. sym (begin_is sc ok j h k) ∙ ap (λ x. where_is 0 x sc.lines) e ∙ m.first)

    entry_of : (fw : Bool) → entry (turned_script sc) (not fw) q ≡ length sc.lines - entry sc fw q
    entry_of true = let a = end_turned in let b = m.first in omega arith
    entry_of false = let a = begin_turned in let b = m.last in let c = close_low in omega arith

    has_turned : has_method (turned sc.lines) q ≡ true
    has_turned = lt-ltb (where_is 0 q (turned sc.lines)) (length (turned sc.lines)) (let a = begin_turned in let b = turned_length sc.lines in let c = close_low in omega arith)

  pub entry_mirrored : (q : ℕ) → has_method sc.lines q ≡ true → (fw : Bool) → entry (turned_script sc) (not fw) q ≡ length sc.lines - entry sc fw q
  entry_mirrored q h fw = entry_of q (method_of sc ok q h) fw

  pub has_mirrored : (q : ℕ) → has_method (turned sc.lines) q ≡ has_method sc.lines q
  has_mirrored q = both (has_method (turned sc.lines) q) (has_method sc.lines q) back (λ h. has_turned q (method_of sc ok q h))
    where
      back : has_method (turned sc.lines) q ≡ true → has_method sc.lines q ≡ true
      back h =
          let ls = sc.lines in
          let size = turned_length ls in
          let w = where_is 0 q (turned ls) in
          let low = ltb-true w (length (turned ls)) h in
          let (k, name) = where_at 0 q (turned ls) low in
          let i = length ls - 1 - w in
          let e : length ls - 1 - i ≡ w = omega arith in
          let in-i : i < length ls = omega arith in
          let from : line_at (turned ls) w ≡ turned_line (line_at ls i) = ap (line_at (turned ls)) (sym e) ∙ line_turned sc i in-i in
          ap (has_method ls) (sym name ∙ ap (λ x. x.q) from) ∙ end_method sc ok i in-i (sym (turned_twice (line_at ls i).kind) ∙ ap turned_kind (sym (ap (λ x. x.kind) from) ∙ k))

-- ---- calls and returns

callee_mirrored : (n : ℕ) (s : State) (y y' : Place) → y' ≡ y → find (mirrored n s) y' ≡ find s y → callee (mirrored n s) y' ≡ callee s y
callee_mirrored n s y y' e f =
    ap₂ (λ z r. cond (is_none z) (Ok s.present) (r >>= λ u. need (ltb 0 (named s.book (read s u))) NoRecord >>= λ _. Ok (named s.book (read s u)))) e f

holding_mirrored : (n : ℕ) (s : State) (y y' : Place) (k : ℕ) → y' ≡ y → find (mirrored n s) y' ≡ find s y → holding (mirrored n s) y' k ≡ holding s y k
holding_mirrored n s y y' k e f = ap₂ (λ z r. cond (is_none z) (Ok tt) (r >>= λ u. need (eq_z (read s u) (pos k)) Changed)) e f

module _ (sc : Script) (ok : checked sc ≡ accepted) (l : ℕ) (inside-l : l < length sc.lines) (s : State) where
  entered_mirrored : (fw : Bool) → has_method sc.lines (line_at sc.lines l).q ≡ true
      → entered (turned_script sc) (length sc.lines - 1 - l) (mirrored (length sc.lines) s) (not fw) ≡ map_ok (mirrored (length sc.lines)) (entered sc l s fw)
  entered_mirrored fw h =
      let n = length sc.lines in
      let lt = line_turned sc l inside-l in
      let size : length (map (frame_of n) s.frames) ≡ length s.frames = length-map s.frames (frame_of n) in
      let at : entry (turned_script sc) (not fw) (line_at (turned sc.lines) (n - 1 - l)).q ≡ n - entry sc fw (line_at sc.lines l).q =
      ap (λ x. entry (turned_script sc) (not fw) x.q) lt ∙ entry_mirrored sc ok (line_at sc.lines l).q h fw in
      let same = callee_mirrored n s (line_at sc.lines l).y (line_at (turned sc.lines) (n - 1 - l)).y (ap (λ x. x.y) lt) (y_mirrored sc l inside-l s) in
      ap₂ (λ m r. need (ltb m 64) TooDeep >>= λ _. r >>= λ k. Ok (record {
        position = entry (turned_script sc) (not fw) (line_at (turned sc.lines) (n - 1 - l)).q;
        forward = not fw;
        present = k;
        locals = s.locals;
        frames = record { line = n - 1 - l; former = s.present; count = length s.locals } ∷ map (frame_of n) s.frames;
        book = s.book;
      })) size same
      ∙ bind_map (mirrored n) (need (ltb (length s.frames) 64) TooDeep) _ _ (λ _. bind_map (mirrored n) (callee s (line_at sc.lines l).y) _ _ (λ k.
      ap {B = Result State Refusal} (λ p. Ok (record {
        position = p;
        forward = not fw;
        present = k;
        locals = s.locals;
        frames = record { line = n - 1 - l; former = s.present; count = length s.locals } ∷ map (frame_of n) s.frames;
        book = s.book;
      })) at))

  across_mirrored : (k : ℕ) (fw : Bool) → (k ≡ 16) ⊎ (k ≡ 17) → across (turned_kind k) (not fw) ≡ not (across k fw)
  across_mirrored k fw (inl e) = rw e refl
  across_mirrored k fw (inr e) = rw e refl

  left_mirrored : (f : Frame) (fs : List Frame) → f.line < length sc.lines → ((line_at sc.lines f.line).kind ≡ 16) ⊎ ((line_at sc.lines f.line).kind ≡ 17)
      → (let n = length sc.lines in left (turned_script sc) (n - 1 - l) (mirrored n s) (frame_of n f) (map (frame_of n) fs) ≡ map_ok (mirrored n) (left sc l s f fs))
  left_mirrored f fs low kinds =
      let n = length sc.lines in
      let lt = line_turned sc f.line low in
      let k = (line_at sc.lines f.line).kind in
      let turns : across (line_at (turned sc.lines) (n - 1 - f.line)).kind (not s.forward) ≡ not (across k s.forward) =
      ap (λ x. across x.kind (not s.forward)) lt ∙ across_mirrored k s.forward kinds in
      let c = caller sc f fs s in
      let same : caller (turned_script sc) (frame_of n f) (map (frame_of n) fs) (mirrored n s) ≡ mirrored n c =
      ap (λ b. record { position = past b (n - 1 - f.line); forward = b; present = f.former; locals = s.locals; frames = map (frame_of n) fs; book = s.book }) turns
      ∙ ap (λ p. record { position = p; forward = not (across k s.forward); present = f.former; locals = s.locals; frames = map (frame_of n) fs; book = s.book }) (past_mirrored (across k s.forward) n f.line low) in
      ap (λ x. holding x (line_at (turned sc.lines) (n - 1 - f.line)).y s.present >>= λ _. Ok x) same
      ∙ ap (λ r. r >>= λ _. Ok (mirrored n c)) (holding_mirrored n c (line_at sc.lines f.line).y (line_at (turned sc.lines) (n - 1 - f.line)).y s.present (ap (λ x. x.y) lt) (y_mirrored sc f.line low c))
      ∙ bind_map (mirrored n) (holding c (line_at sc.lines f.line).y s.present) _ _ (λ _. refl)

-- ---- kind by kind

module _ (sc : Script) (ok : checked sc ≡ accepted) (q : ℕ) (d : Bool) where
  abbrev Mirrors : ℕ → Type 0
  Mirrors k = (l : ℕ) (s : State) → l < length sc.lines → met s.forward (line_at sc.lines l).kind ≡ k → Fit sc q d s
      → (let n = length sc.lines in rule k (turned_script sc) (n - 1 - l) (mirrored n s) ≡ map_ok (mirrored n) (rule k sc l s))

  returned_mirrored : (l : ℕ) (s : State) → l < length sc.lines → Fit sc q d s
      → (let n = length sc.lines in returned (turned_script sc) (n - 1 - l) (mirrored n s) (map (frame_of n) s.frames) ≡ map_ok (mirrored n) (returned sc l s s.frames))
  returned_mirrored l s inside-l F = by s.frames F.chain
    where
      by : (gs : List Frame) → Chain sc q (records s.book) gs s.present
          → (let n = length sc.lines in returned (turned_script sc) (n - 1 - l) (mirrored n s) (map (frame_of n) gs) ≡ map_ok (mirrored n) (returned sc l s gs))
      by [] c = refl
      by (f ∷ fs) c = left_mirrored sc ok l inside-l s f fs c.0.inside c.0.calls

  mirror_0 : Mirrors 0
  mirror_0 l s i h F = refl

  mirror_1 : Mirrors 1
  mirror_1 l s i h F = returned_mirrored l s i F

  mirror_2 : Mirrors 2
  mirror_2 l s i h F = changed_mirrored sc l i s (λ a b. word (a +ℤ b))

  mirror_3 : Mirrors 3
  mirror_3 l s i h F = changed_mirrored sc l i s (λ a b. word (a -ℤ b))

  mirror_14 : Mirrors 14
  mirror_14 l s i h F = changed_mirrored sc l i s (on_bits bit_xor)

  mirror_5 : Mirrors 5
  mirror_5 l s i h F = asserted_mirrored sc l i s

  mirror_6 : Mirrors 6
  mirror_6 l s i h F = asserted_mirrored sc l i s

  mirror_4 : Mirrors 4
  mirror_4 l s i h F = let b = bracket_met s.forward (line_at sc.lines l).kind 4 h refl in branched_mirrored sc (block sc ok) l i b (partner_in sc.lines (block sc ok) l i b) s

  mirror_7 : Mirrors 7
  mirror_7 l s i h F = let b = bracket_met s.forward (line_at sc.lines l).kind 7 h refl in branched_mirrored sc (block sc ok) l i b (partner_in sc.lines (block sc ok) l i b) s

  mirror_8 : Mirrors 8
  mirror_8 l s i h F = opened_mirrored sc l i s

  mirror_9 : Mirrors 9
  mirror_9 l s i h F = closed_mirrored sc l i s

  mirror_10 : Mirrors 10
  mirror_10 l s i h F = allocated_mirrored sc l i s

  mirror_11 : Mirrors 11
  mirror_11 l s i h F = freed_mirrored sc l i s

  mirror_12 : Mirrors 12
  mirror_12 l s i h F = copied_mirrored sc l i s

  mirror_13 : Mirrors 13
  mirror_13 l s i h F = uncopied_mirrored sc l i s

  mirror_15 : Mirrors 15
  mirror_15 l s i h F = swapped_mirrored sc l i s

  mirror_16 : Mirrors 16
  mirror_16 l s i h F = entered_mirrored sc ok l i s s.forward (calls_method sc ok l i (inl (same_kind sc l 16 s refl h)))

  mirror_17 : Mirrors 17
  mirror_17 l s i h F = entered_mirrored sc ok l i s (not s.forward) (calls_method sc ok l i (inr (same_kind sc l 17 s refl h)))

  all_mirror : Each Mirrors 0 18
  all_mirror = (mirror_0, (mirror_1, (mirror_2, (mirror_3, (mirror_4, (mirror_5, (mirror_6, (mirror_7, (mirror_8, (mirror_9, (mirror_10, (mirror_11, (mirror_12, (mirror_13, (mirror_14, (mirror_15, (mirror_16, (mirror_17, tt))))))))))))))))))

  module _ (s : State) (F : Fit sc q d s) where
    abbrev size : ℕ
    size = length sc.lines

    turn_there : turn_of (mirrored size s) ≡ size - 1 - turn_of s
    turn_there = turn_mirrored s.forward size s.position (in_range sc.lines (block sc ok) _ s.position F.high F.within).0

    kind_there : kind_met (turned_script sc) (mirrored size s) ≡ kind_met sc s
    kind_there =
        ap (λ i. met (not s.forward) (line_at (turned sc.lines) i).kind) turn_there
        ∙ ap (λ x. met (not s.forward) x.kind) (line_turned sc (turn_of s) (turn_in sc ok q d s F))
        ∙ met_mirrored s.forward (line_at sc.lines (turn_of s)).kind

    step_mirrored : step (turned_script sc) (mirrored size s) ≡ map_ok (mirrored size) (step sc s)
    unfolding step
    step_mirrored =
        ap₂ (λ k i. rule k (turned_script sc) i (mirrored size s)) kind_there turn_there
        ∙ ⊎_elim
        (λ low. each_at Mirrors 0 18 (kind_met sc s) all_mirror (omega arith) (omega arith) (turn_of s) s (turn_in sc ok q d s F) refl F)
        (λ high.
        let e = get_or_past rules (kind_met sc s) (λ _ _ _. Err Unknown) high in
        ap (λ r. r (turned_script sc) (size - 1 - turn_of s) (mirrored size s)) e ∙ ap (λ r. map_ok (mirrored size) (r sc (turn_of s) s)) (sym e))
        (cases_lt (kind_met sc s) 18)

    finished_mirrored : finished (turned_script sc) (mirrored size s) ≡ finished sc s
    finished_mirrored = ap₂ (λ k n. eqb k 1 && eqb n 0) kind_there (length-map s.frames (frame_of size))

    next_mirrored : next (turned_script sc) (mirrored size s) ≡ map_next (mirrored size) (next sc s)
    next_mirrored =
        ap₂ (λ b r. elim b as (λ _. Next State Refusal) [ true ↦ finish | false ↦ either r go stop ]) finished_mirrored step_mirrored ∙ by (finished sc s) (step sc s)
      where
        by : (b : Bool) (r : Result State Refusal)
            → elim b as (λ _. Next State Refusal) [ true ↦ finish | false ↦ either (map_ok (mirrored size) r) go stop ] ≡ map_next (mirrored size) (elim b as (λ _. Next State Refusal) [ true ↦ finish | false ↦ either r go stop ])
        by true r = refl
        by false (Ok t) = refl
        by false (Err n) = refl

module _ (sc : Script) (ok : checked sc ≡ accepted) where
  enter_mirrored : (q : ℕ) (d : Dir) (a : List ℤ) → has_method sc.lines q ≡ true → start (turned_script sc) (ahead (other d)) q a ≡ mirrored (length sc.lines) (start sc (ahead d) q a)
  enter_mirrored q fwd a h = ap (λ p. record { position = p; forward = false; present = 0; locals = []; frames = []; book = a }) (entry_mirrored sc ok q h true)
  enter_mirrored q bwd a h = ap (λ p. record { position = p; forward = true; present = 0; locals = []; frames = []; book = a }) (entry_mirrored sc ok q h false)

  -- a line, counted from the other end
  abbrev from_end : ℕ → ℕ
  from_end l = length sc.lines - 1 - l

  pub maps : Maps (machine sc) (machine (turned_script sc)) Any (Inv sc ok) other from_end (mirrored (length sc.lines)) (λ b. b)
  maps = record {
    has = has_mirrored sc ok;
    is_book = λ a o. refl;
    no_budget = refl;
    inv_enter = λ q d a o. (lawful sc ok).inv_enter q d a;
    inv_step = (lawful sc ok).inv_step;
    enter = λ q d a o t h. enter_mirrored q d a (is_true _ h);
    book = λ q d s i. refl;
    line = λ q d s F. turn_there sc ok q (ahead d) s F;
    step = λ q d s F. next_mirrored sc ok q (ahead d) s F;
  }

  pub turns : Turns (machine sc) (machine (turned_script sc))
  turns = turns_round (machine sc) (machine (turned_script sc)) (Inv sc ok) (lawful sc ok) from_end (mirrored (length sc.lines)) maps

  -- the turned script's run is the run in the other direction, refusals, lines and steps included
  pub mirrors : checked (turned_script sc) ≡ accepted → Carries (machine sc) (machine (turned_script sc)) Any other from_end (λ b. b)
  mirrors ok' =
      carries (machine sc) (machine (turned_script sc)) Any (Inv sc ok) other from_end (mirrored (length sc.lines)) (λ b. b) maps
      (restores (machine sc) (Inv sc ok) (lawful sc ok)) (restores (machine (turned_script sc)) (Inv (turned_script sc) ok') (lawful (turned_script sc) ok'))
