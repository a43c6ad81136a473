-- The screen answers as the ledger does.
use Rattle.std.proofs.Common.{◌≡◌, ℕ, ◌+◌, ◌-◌, Bool, true, false, ltb, ◌↔◌, List, [], ◌∷◌, ◌++◌, length, sym, refl, ap, ◌∙◌, subst, arith}
use Rattle.std.proofs.lemmas.List.{take_more, take_all}
use Rattle.reversible.specs.Machine.{Machine, Dir, fwd, Outcome, done, refused, after, run}
use Rattle.reversible.specs.Ledger.{Verdict, accepted, rejected, Rules, LawfulRules, Call, load, apply, back, look, Answer, success, refusal, Entry, entry, Standing, last, struck, Screen, Ledger, carried_on, gate, attempt, carried, ledger_load, ledger_apply, ledger_back, ledger_call, screen_load, screen_apply, screen_backed, screen_back, screen_call, open_screen, open_ledger, plays, screen_after, Keeps, Follows, Apart}
use Rattle.reversible.proofs.Runs.{restores, budgets, undone, separates}

-- each standing pair is a run that finishes
abbrev pub Stands : {S B R : Type 0} → Machine S B R → B → Standing → Type 0
Stands m a [] = Unit {0}
Stands m a (x ∷ st) = (let b = after (run m x.method fwd a x.steps) in (run m x.method fwd a x.steps ≡ done x.steps b) × Stands m b st)

module _ {S B R : Type 0} (m : Machine S B R) where
  abbrev on : B → Entry → B
  on a x = after (run m x.method fwd a x.steps)

  carried_join : (a : B) (st : Standing) (x : Entry) → carried_on m a (st ++ (x ∷ [])) ≡ on (carried_on m a st) x
  carried_join a [] x = refl
  carried_join a (y ∷ st) x = carried_join (on a y) st x

  stands_join : (a : B) (st : Standing) (x : Entry) → Stands m a st → run m x.method fwd (carried_on m a st) x.steps ≡ done x.steps (on (carried_on m a st) x) → Stands m a (st ++ (x ∷ []))
  stands_join a [] x h e = (e, tt)
  stands_join a (y ∷ st) x h e = (h.0, stands_join (on a y) st x h.1 e)

  stands_last : (a : B) (st : Standing) (x : Entry) → Stands m a (st ++ (x ∷ [])) → (run m x.method fwd (carried_on m a st) x.steps ≡ done x.steps (on (carried_on m a st) x)) × Stands m a st
  stands_last a [] x h = (h.0, tt)
  stands_last a (y ∷ st) x h = let r = stands_last (on a y) st x h.1 in (r.0, (h.0, r.1))

split : (x : Entry) (st : Standing) → x ∷ st ≡ struck (x ∷ st) ++ (last (x ∷ st) ∷ [])
split x st =
    let n = length (x ∷ st) - 1 in
    sym (take_all (n + 1) (x ∷ st) (omega arith)) ∙ take_more (x ∷ st) n (entry 0 0) (omega arith)

module _ {S B W C R : Type 0} (rules : Rules S B W C R) (Good : C → Type 0) (Inv : C → ℕ → Dir → S → Type 0) (L : LawfulRules rules Good Inv) where
  -- the screen that a ledger says
  abbrev pub shown : Ledger B C → Screen B C
  shown l = record { book = carried rules l; script = l.script; standing = l.standing }

  pub record Sound (l : Ledger B C) : Type 0 where
    pub good : Good l.script
    pub stands : Stands (rules.machine l.script) l.opening l.standing

  -- one call: the screen answers as the ledger does, and is then the one that the ledger shows
  pub record Match (x : Answer W R × Screen B C) (y : Answer W R × Ledger B C) : Type 0 where
    pub same : x ≡ (y.0, shown y.1)
    pub sound : Sound y.1

  abbrev of : B → C → Standing → Ledger B C
  of a c st = record { opening = a; script = c; standing = st }

  load_case : (a : B) (c : C) (p : C) (st : Standing) (v : Verdict R) → rules.check p ≡ v → Sound (of a c st) →
      Match (screen_load rules (shown (of a c st)) p st v) (ledger_load rules (of a c st) p st v)
  load_case a c p [] accepted e h = record { same = refl; sound = record { good = L.good_script p e; stands = tt } }
  load_case a c p [] (rejected k n) e h = record { same = refl; sound = h }
  load_case a c p (x ∷ st) v e h = record { same = refl; sound = h }

  -- an attempt that is done is a run, and one that is refused leaves the book
  gate_done : (m : Machine S B R) (a b : B) (q budget n : ℕ) (u v w : Bool) → gate rules m a q budget u v w ≡ done n b → run m q fwd a budget ≡ done n b
  gate_done m a b q budget n true true true e = e
  gate_done m a b q budget n true true false e = absurd (let z : ◌≡◌ {A = ℕ} 0 1 = cc in omega arith)
  gate_done m a b q budget n true false w e = absurd (let z : ◌≡◌ {A = ℕ} 0 1 = cc in omega arith)
  gate_done m a b q budget n false v w e = absurd (let z : ◌≡◌ {A = ℕ} 0 1 = cc in omega arith)

  gate_refused : (c : C) → Good c → (a b : B) (q budget : ℕ) (x : R) (l n : ℕ) (u v w : Bool) → gate rules (rules.machine c) a q budget u v w ≡ refused x l n b → b ≡ a
  gate_refused c g a b q budget x l n true true true e = restores (rules.machine c) (Inv c) (L.lawful c g) q fwd a b budget x l n e
  gate_refused c g a b q budget x l n true true false e = cc
  gate_refused c g a b q budget x l n true false w e = cc
  gate_refused c g a b q budget x l n false v w e = cc

  apply_case : (l : Ledger B C) (q budget : ℕ) (o : Outcome B R) → attempt rules (rules.machine l.script) (carried rules l) l.standing q budget ≡ o → Sound l →
      Match (screen_apply rules (shown l) q o) (ledger_apply rules l q o)
  apply_case l q budget (done n b) e h =
      let m = rules.machine l.script in
      let a = carried rules l in
      let r : run m q fwd a budget ≡ done n b = gate_done m a b q budget n (m.is_book a) (m.has q) (ltb (length l.standing) rules.capacity) e in
      let f : run m q fwd a n ≡ done n b = ((budgets m (Inv l.script) (L.lawful l.script h.good) q fwd a b budget n).0 r).1 in
      let k : after (run m q fwd a n) ≡ b = ap after f in
      let j : b ≡ carried_on m l.opening (l.standing ++ (entry q n ∷ [])) = sym k ∙ sym (carried_join m l.opening l.standing (entry q n)) in
      record {
        same = λ i. (success n, record { book = j i; script = l.script; standing = l.standing ++ (entry q n ∷ []) });
        sound = record { good = h.good; stands = stands_join m l.opening l.standing (entry q n) h.stands (f ∙ ap (done n) (sym k)) };
      }
  apply_case l q budget (refused x k n b) e h =
      let m = rules.machine l.script in
      let a = carried rules l in
      let f : b ≡ a = gate_refused l.script h.good a b q budget x k n (m.is_book a) (m.has q) (ltb (length l.standing) rules.capacity) e in
      record {
        same = λ i. (refusal x k n, record { book = f i; script = l.script; standing = l.standing });
        sound = h;
      }

  back_case : (a : B) (c : C) (st : Standing) → Sound (of a c st) → Match (screen_back rules (shown (of a c st)) st) (ledger_back rules (of a c st) st)
  back_case a c [] h = record { same = refl; sound = h }
  back_case a c (x ∷ st) h =
      let m = rules.machine c in
      let y = last (x ∷ st) in
      let older = struck (x ∷ st) in
      let e : x ∷ st ≡ older ++ (y ∷ []) = split x st in
      let s = stands_last m a older y (subst (Stands m a) e h.stands) in
      let b : carried_on m a (x ∷ st) ≡ after (run m y.method fwd (carried_on m a older) y.steps) = ap (carried_on m a) e ∙ carried_join m a older y in
      let r = undone m (Inv c) (L.lawful c h.good) y.method fwd (carried_on m a older) (carried_on m a (x ∷ st)) y.steps (s.0 ∙ ap (done y.steps) (sym b)) in
      record {
        same = ap (screen_backed rules (shown (of a c (x ∷ st)))) r;
        sound = record { good = h.good; stands = s.1 };
      }

  pub call_case : (l : Ledger B C) (x : Call C) → Sound l → Match (screen_call rules (shown l) x) (ledger_call rules l x)
  call_case l (load p) h = load_case l.opening l.script p l.standing (rules.check p) refl h
  call_case l (apply q budget) h = apply_case l q budget (attempt rules (rules.machine l.script) (carried rules l) l.standing q budget) refl h
  call_case l back h = back_case l.opening l.script l.standing h
  call_case l (look w) h = record { same = refl; sound = h }

  -- any sequence of calls
  pub record Matches (x : List (Answer W R) × Screen B C) (y : List (Answer W R) × Ledger B C) : Type 0 where
    pub same : x ≡ (y.0, shown y.1)
    pub sound : Sound y.1

  pub plays_case : (cs : List (Call C)) (l : Ledger B C) → Sound l → Matches (plays (screen_call rules) (shown l) cs) (plays (ledger_call rules) l cs)
  plays_case [] l h = record { same = refl; sound = h }
  plays_case (c ∷ cs) l h =
      let k = call_case l c h in
      let t = plays_case cs (ledger_call rules l c).1 k.sound in
      record {
        same =
            ap (λ (z : Answer W R × Screen B C). (z.0 ∷ (plays (screen_call rules) z.1 cs).0, (plays (screen_call rules) z.1 cs).1)) k.same
            ∙ ap (λ (z : List (Answer W R) × Screen B C). ((ledger_call rules l c).0 ∷ z.0, z.1)) t.same;
        sound = t.sound;
      }

  refuses_case : (l : Ledger B C) (st : Standing) → ((ledger_back rules l st).0 ≡ refusal rules.nothing_stands 0 0) ↔ (st ≡ [])
  refuses_case l [] = (λ e. refl, λ e. refl)
  refuses_case l (x ∷ st) = (λ e. absurd (let z : ◌≡◌ {A = ℕ} 0 1 = cc in omega arith), λ e. absurd (let z : ◌≡◌ {A = ℕ} 0 1 = cc in omega arith))

  pub keeps : Keeps rules
  keeps a cs =
      let z = plays (screen_call rules) (open_screen rules a) cs in
      let l = (plays (ledger_call rules) (open_ledger rules a) cs).1 in
      let t = plays_case cs (open_ledger rules a) (record { good = L.good_empty; stands = tt }) in
      let k = call_case l back t.sound in
      let sts : z.1.standing ≡ l.standing = ap (λ (y : List (Answer W R) × Screen B C). y.1.standing) t.same in
      let backs : (screen_call rules z.1 back).0 ≡ (ledger_back rules l l.standing).0 =
      ap (λ (y : List (Answer W R) × Screen B C). (screen_call rules y.1 back).0) t.same ∙ ap (λ (y : Answer W R × Screen B C). y.0) k.same in
      record {
        answers = ap (λ (y : List (Answer W R) × Screen B C). y.0) t.same;
        script = ap (λ (y : List (Answer W R) × Screen B C). y.1.script) t.same;
        standing = sts;
        book = ap (λ (y : List (Answer W R) × Screen B C). y.1.book) t.same;
        refuses = (λ e. sts ∙ (refuses_case l l.standing).0 (sym backs ∙ e), λ e. backs ∙ (refuses_case l l.standing).1 (sym sts ∙ e));
        gives = λ x st e. backs ∙ ap (λ (y : Standing). (ledger_back rules l y).0) (sym sts ∙ e);
      }

  -- one call more at the end
  plays_more : {X Y Z : Type 0} (f : X → Y → Z × X) (x : X) (cs : List Y) (c : Y) → (f (plays f x cs).1 c).1 ≡ (plays f x (cs ++ (c ∷ []))).1
  plays_more f x [] c = refl
  plays_more f x (d ∷ cs) c = plays_more f (f x d).1 cs c

  pub follows : (s : Screen B C) (c : Call C) → Follows rules s c (screen_call rules s c).0 (screen_call rules s c).1
  follows s c a cs e =
      let l = (plays (ledger_call rules) (open_ledger rules a) cs).1 in
      let t = plays_case cs (open_ledger rules a) (record { good = L.good_empty; stands = tt }) in
      let k = call_case l c t.sound in
      let f : s ≡ shown l = e ∙ ap (λ (y : List (Answer W R) × Screen B C). y.1) t.same in
      let g : screen_call rules s c ≡ ((ledger_call rules l c).0, shown (ledger_call rules l c).1) = ap (λ (y : Screen B C). screen_call rules y c) f ∙ k.same in
      record {
        answer = ap (λ (y : Answer W R × Screen B C). y.0) g;
        standing = ap (λ (y : Answer W R × Screen B C). y.1.standing) g;
        book = ap (λ (y : Answer W R × Screen B C). y.1.book) g;
        onward = ap (λ (y : Screen B C). (screen_call rules y c).1) e ∙ plays_more (screen_call rules) (open_screen rules a) cs c;
      }

  -- an apply that succeeds is a run that finishes at the book it leaves
  finished_apply : (s : Screen B C) (q x n : ℕ) → (screen_call rules s (apply q x)).0 ≡ success n → run (rules.machine s.script) q fwd s.book x ≡ done n (screen_call rules s (apply q x)).1.book
  finished_apply s q x n e = by (attempt rules (rules.machine s.script) s.book s.standing q x) refl e
    where
      by : (o : Outcome B R) → attempt rules (rules.machine s.script) s.book s.standing q x ≡ o → (screen_apply rules s q o).0 ≡ success n
          → run (rules.machine s.script) q fwd s.book x ≡ done n (screen_apply rules s q o).1.book
      by (done k b) f e =
          let same : k ≡ n = cc in
          gate_done (rules.machine s.script) s.book b q x k ((rules.machine s.script).is_book s.book) ((rules.machine s.script).has q) (ltb (length s.standing) rules.capacity) f
          ∙ ap (λ (i : ℕ). done i b) same
      by (refused r l k b) f e = absurd (let z : ◌≡◌ {A = ℕ} 0 1 = cc in omega arith)

  good_after : (a : B) (cs : List (Call C)) → Good (screen_after rules a cs).script
  good_after a cs =
      let t = plays_case cs (open_ledger rules a) (record { good = L.good_empty; stands = tt }) in
      subst Good (sym (ap (λ (y : List (Answer W R) × Screen B C). y.1.script) t.same)) t.sound.good

  pub apart : Apart rules
  apart a b cs ds q x y n k same e f =
      let s = screen_after rules a cs in
      let u = screen_after rules b ds in
      let ran : run (rules.machine s.script) q fwd u.book y ≡ done k (screen_call rules u (apply q y)).1.book =
      subst (λ (c : C). run (rules.machine c) q fwd u.book y ≡ done k (screen_call rules u (apply q y)).1.book) (sym same) (finished_apply u q y k f) in
      separates (rules.machine s.script) (Inv s.script) (L.lawful s.script (good_after a cs)) q fwd s.book u.book
      (screen_call rules s (apply q x)).1.book (screen_call rules u (apply q y)).1.book x y n k (finished_apply s q x n e) ran
