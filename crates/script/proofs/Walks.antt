-- The check's walk over the lines, a line at a time.
use Rattle.std.proofs.Common.{◌≡◌, ℕ, suc, ◌+◌, ◌<◌, ◌≤◌, Bool, true, false, cond, not, ◌&&◌, eqb, ltb, ◌≢◌, List, [], ◌∷◌, length, get_or, drop, set, Some, None, Option, Ok, Err, sym, refl, ap, ap₂, ◌∙◌, ⊎_elim, add-one, arith}
use Rattle.std.proofs.lemmas.List.{at_drop_more, at_drop_all, get_or-set_same, get_or-set_other}
use Rattle.std.proofs.lemmas.Bool.{eqb-true, eq-eqb, ne_eqb, lt-ltb, le-ltb, cases_eq, cases_lt}
use Rattle.reversible.specs.Ledger.{Verdict, accepted, rejected}
use Rattle.rules.specs.Answer.{either}
use Rattle.rules.specs.Script.{Script, line_at, where_is}
use Rattle.rules.specs.Check.{well_filled, after, within, judged, calls, walked}
use Rattle.rules.specs.declared.Line.{Line}
use Rattle.rules.specs.declared.Refusal.{Refusal}
use Rattle.rules.specs.declared.Refusal.TheVariants.{Unpaired, WrongMethod}
use Rattle.laws.proofs.Methods.{where_at, where_hit}
use Rattle.script.specs.Judging.{judged_by, noted}
use Rattle.script.specs.Verdicts.{Knows, missing}
use Rattle.std.specs.List.{position, position_or_len}
use Rattle.script.proofs.Lines.{judged_as, method_low}

-- the methods begun by the first k lines
abbrev pub Begun : List Bool → List Line → ℕ → Type 0
Begun begun ls k = (q : ℕ) → get_or begun q false ≡ ltb (where_is 0 q ls) k

below_or_at : (w k : ℕ) → w ≤ k → not (ltb w k) ≡ eqb w k
below_or_at w k h =
    ⊎_elim
    (λ e. ap not (le-ltb w k (omega arith)) ∙ sym (eq-eqb w k e))
    (λ n. ap not (lt-ltb w k (omega arith)) ∙ sym (ne_eqb w k n))
    (cases_eq w k)

module _ (sc : Script) (k : ℕ) (inside : k < length sc.lines) (l : Line) (here : line_at sc.lines k ≡ l) (begun : List Bool) (B : Begun begun sc.lines k) where
  -- a begin is found to be the first of its method
  first : well_filled l ≡ true → eqb l.kind 0 ≡ true → not (get_or begun l.q false) ≡ eqb (where_is 0 l.q sc.lines) k
  first f e =
      let hit = where_hit 0 l.q sc.lines k inside (ap (λ x. x.kind) here ∙ eqb-true l.kind 0 e) (ap (λ x. x.q) here) in
      ap not (B l.q) ∙ below_or_at (where_is 0 l.q sc.lines) k hit

  pub judged_here : (os : List Line) → judged_by os begun l sc.terms ≡ judged sc k os l
  judged_here os = judged_as sc k os l begun first

  not_here : (q : ℕ) → ((l.kind ≡ 0) → (l.q ≡ q) → ⊥) → where_is 0 q sc.lines ≢ k
  not_here q never e =
      let (kind, name) = where_at 0 q sc.lines (omega arith) in
      never (ap (λ x. x.kind) (sym here) ∙ ap (λ i. (line_at sc.lines i).kind) (sym e) ∙ kind) (ap (λ x. x.q) (sym here) ∙ ap (λ i. (line_at sc.lines i).q) (sym e) ∙ name)

  as_before : (w : ℕ) → w ≢ k → ltb w k ≡ ltb w (k + 1)
  as_before w n = ⊎_elim (λ h. lt-ltb w k h ∙ sym (lt-ltb w (k + 1) (omega arith))) (λ h. le-ltb w k h ∙ sym (le-ltb w (k + 1) (omega arith))) (cases_lt w k)

  pub begun_next : length begun ≡ 256 → well_filled l ≡ true → Begun (noted begun l) sc.lines (k + 1)
  begun_next size f q = by (eqb l.kind 0) refl
    where
      by : (b : Bool) → eqb l.kind 0 ≡ b → get_or (cond b (set begun l.q true) begun) q false ≡ ltb (where_is 0 q sc.lines) (k + 1)
      by false e = B q ∙ as_before _ (not_here q (λ z _. let w : ◌≡◌ {A = Bool} true false = sym (eq-eqb l.kind 0 z) ∙ e in let u : ◌≡◌ {A = ℕ} 0 1 = cc in omega arith))
      by true e =
          ⊎_elim
          (λ same.
          let hit = where_hit 0 q sc.lines k inside (ap (λ x. x.kind) here ∙ eqb-true l.kind 0 e) (ap (λ x. x.q) here ∙ sym same) in
          ap (λ i. get_or (set begun l.q true) i false) same ∙ get_or-set_same begun l.q true false (let low = method_low l f in omega arith) ∙ sym (lt-ltb (where_is 0 q sc.lines) (k + 1) (omega arith)))
          (λ other. get_or-set_other begun l.q q true false other ∙ B q ∙ as_before _ (not_here q (λ _ z. other (sym z))))
          (cases_eq q l.q)

module _ (sc : Script) (k : ℕ) (os : List Line) (V : Verdict Refusal) (inv : walked sc k os (drop k sc.lines) ≡ V) where
  one_more : (d : Line) → k < length sc.lines → either (judged sc k os (get_or sc.lines k d)) (λ _. walked sc (suc k) (after os (get_or sc.lines k d)) (drop (k + 1) sc.lines)) (λ r. rejected r k) ≡ V
  one_more d h =
      let p : walked sc k os (drop k sc.lines) ≡ either (judged sc k os (get_or sc.lines k d)) (λ _. walked sc (suc k) (after os (get_or sc.lines k d)) (drop (k + 1) sc.lines)) (λ r. rejected r k) = at_drop_more (walked sc k os) sc.lines k d h in
      sym p ∙ inv

  pub goes_on : (d : Line) → k < length sc.lines → judged sc k os (get_or sc.lines k d) ≡ Ok tt → walked sc (k + 1) (after os (get_or sc.lines k d)) (drop (k + 1) sc.lines) ≡ V
  goes_on d h e =
      let l = get_or sc.lines k d in
      ap (λ j. walked sc j (after os l) (drop (k + 1) sc.lines)) (add-one k)
      ∙ ap (λ r. either r (λ _. walked sc (suc k) (after os l) (drop (k + 1) sc.lines)) (λ r. rejected r k)) (sym e) ∙ one_more d h

  pub stops : (d : Line) (r : Refusal) → k < length sc.lines → judged sc k os (get_or sc.lines k d) ≡ Err r → V ≡ rejected r k
  stops d r h e =
      let l = get_or sc.lines k d in
      sym (one_more d h) ∙ ap (λ r. either r (λ _. walked sc (suc k) (after os l) (drop (k + 1) sc.lines)) (λ r. rejected r k)) e

  at_end : length sc.lines ≤ k → walked sc k os [] ≡ V
  at_end h = let p : walked sc k os (drop k sc.lines) ≡ walked sc k os [] = at_drop_all (walked sc k os) sc.lines k h in sym p ∙ inv

  pub left_open : (o : Line) (rest : List Line) → os ≡ o ∷ rest → length sc.lines ≤ k → V ≡ rejected Unpaired k
  left_open o rest e h = sym (at_end h) ∙ ap (λ x. walked sc k x []) e

  pub all_closed : os ≡ [] → length sc.lines ≤ k → V ≡ calls sc.lines 0 sc.lines
  all_closed e h = sym (at_end h) ∙ ap (λ x. walked sc k x []) e

-- what a search for a call of a missing method gives
abbrev pub called : Option ℕ → Verdict Refusal
called None = accepted
called (Some k) = rejected WrongMethod k

module _ (all : List Line) (begun : List Bool) (knows : Knows begun all) where
  abbrev pub misses : Line → Bool
  misses l = missing l begun

  abbrev place : List Line → ℕ
  place ls = position_or_len misses ls

  later : (m n : ℕ) → ltb m n ≡ ltb (1 + m) (suc n)
  later m n = ⊎_elim (λ h. lt-ltb m n h ∙ sym (lt-ltb (1 + m) (suc n) (omega arith))) (λ h. le-ltb m n h ∙ sym (le-ltb (1 + m) (suc n) (omega arith))) (cases_lt m n)

  searched : (k : ℕ) (ls : List Line) → calls all k ls ≡ cond (ltb (place ls) (length ls)) (rejected WrongMethod (k + place ls)) accepted
  searched k [] = refl
  searched k (l ∷ ls) =
      ap (λ b. choose (within 16 17 l.kind && not b)) (sym (knows l.q)) ∙ by (misses l) (searched (suc k) ls)
    where
      choose : Bool → Verdict Refusal
      choose b = elim b as (λ _. Verdict Refusal) [ true ↦ rejected WrongMethod k | false ↦ calls all (suc k) ls ]

      by : (b : Bool) → calls all (suc k) ls ≡ cond (ltb (place ls) (length ls)) (rejected WrongMethod (suc k + place ls)) accepted
          → choose b ≡ cond (ltb (cond (not b) (1 + place ls) 0) (suc (length ls))) (rejected WrongMethod (k + cond (not b) (1 + place ls) 0)) accepted
      by true e = rw (lt-ltb 0 (suc (length ls)) (omega arith)) (ap (rejected WrongMethod) (omega arith))
      by false e = e ∙ ap₂ (λ t n. cond t (rejected WrongMethod n) accepted) (later (place ls) (length ls)) (omega arith)

  pub calls_searched : calls all 0 all ≡ called (position misses all)
  calls_searched = searched 0 all ∙ ap (λ n. cond (ltb (place all) (length all)) (rejected WrongMethod n) accepted) (omega arith) ∙ by (ltb (place all) (length all))
    where
      by : (b : Bool) → cond b (rejected WrongMethod (place all)) accepted ≡ called (cond b (Some (place all)) None)
      by true = refl
      by false = refl
