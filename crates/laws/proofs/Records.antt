-- new and delete undo one another.
use Rattle.std.proofs.Common.{◌≡◌, ℕ, ◌+◌, ◌-◌, ◌<◌, ◌≤◌, Bool, true, false, not, ◌&&◌, ltb, ◌⊎◌, List, length, get_or, set, ℤ, pos, nat_abs, Ok, Result, sym, refl, ap, ◌∙◌, ap₂, inl, inr, arith, length-set}
use Rattle.std.proofs.lemmas.List.{get_or-set_same, get_or-set_other}
use Rattle.std.proofs.lemmas.Bool.{cases_lt, and_parts, and_from, ltb-true, leb-true, lt-ltb, le-leb, not-true, both_ways, ne_eqb, not_from_false}
use Rattle.rules.specs.Answer.{◌>>=◌, need}
use Rattle.rules.specs.Word.{eq_z}
use Rattle.rules.specs.Book.{record_at, named, clear}
use Rattle.rules.specs.Script.{Script, line_at}
use Rattle.rules.specs.Step.{State, find, read, write, with_book, go, go_to, past, flipped, allocated, freed, inside}
use Rattle.rules.specs.declared.Spot.{Spot}
use Rattle.rules.specs.declared.Spot.TheVariants.{InBook}
use Rattle.laws.proofs.Chains.{ok_same, passed, held}
use Rattle.laws.proofs.Cells.{eq_z_true, eq_z_from, clear_at, clear_from, named_is, named_same, restored}
use Rattle.laws.proofs.Back.{At, Undone}
use Rattle.rules.specs.declared.Refusal.{Refusal}

module _ (sc : Script) (l : ℕ) (s : State) (u : Spot) (spot : find s (line_at sc.lines l).x ≡ Ok u) where
  freed_at : (k : ℕ) → named s.book (read s u) ≡ k → ltb 0 k ≡ true → clear s.book 8 k ≡ true
      → freed sc l s ≡ go l (write u (pos 0) (with_book (set (set s.book (record_at k + 7) (get_or s.book 0 (pos 0))) 0 (pos k)) s))
  unfolding ◌>>=◌ need
  freed_at k is p c = rw (spot, is, p, c)

-- a book from which record k is unlinked, and then word w made to name it
abbrev headed : List ℤ → ℕ → List ℤ
headed b k = set b 0 (get_or b (record_at k + 7) (pos 0))

abbrev unlinked : List ℤ → ℕ → List ℤ
unlinked b k = set (headed b k) (record_at k + 7) (pos 0)

abbrev took : List ℤ → ℕ → ℕ → List ℤ
took b k w = set (unlinked b k) w (pos k)

module _ (b : List ℤ) (k w : ℕ) (low : 0 < w) (high : w < length b) (room : record_at k + 7 < length b) (out : record_at k ≤ w → w < record_at k + 8 → ⊥) where
  took_length : length (took b k w) ≡ length b
  took_length = simp length-set

  took_ref : get_or (took b k w) w (pos 0) ≡ pos k
  took_ref = get_or-set_same (unlinked b k) w (pos k) (pos 0) (simp length-set high)

  took_head : get_or (took b k w) 0 (pos 0) ≡ get_or b (record_at k + 7) (pos 0)
  took_head =
      get_or-set_other (unlinked b k) w 0 (pos k) (pos 0) (omega arith)
      ∙ get_or-set_other (headed b k) (record_at k + 7) 0 (pos 0) (pos 0) (omega arith)
      ∙ get_or-set_same b 0 (get_or b (record_at k + 7) (pos 0)) (pos 0) (omega arith)

  unlinked_clear : (i : ℕ) → clear b 7 k ≡ true → i < 8 → (i < 7) ⊎ (7 ≤ i) → get_or (unlinked b k) (record_at k + i) (pos 0) ≡ pos 0
  unlinked_clear i h l (inl less) =
      get_or-set_other (headed b k) (record_at k + 7) (record_at k + i) (pos 0) (pos 0) (omega arith)
      ∙ get_or-set_other b 0 (record_at k + i) (get_or b (record_at k + 7) (pos 0)) (pos 0) (omega arith)
      ∙ clear_at b 7 k i h less
  unlinked_clear i h l (inr more) =
      let e : i ≡ 7 = omega arith in
      rw e (get_or-set_same (headed b k) (record_at k + 7) (pos 0) (pos 0) (simp length-set room))

  took_clear : clear b 7 k ≡ true → clear (took b k w) 8 k ≡ true
  took_clear h = clear_from (took b k w) 8 k (λ i l.
      get_or-set_other (unlinked b k) w (record_at k + i) (pos k) (pos 0) (λ e. out (omega arith) (omega arith)) ∙ unlinked_clear i h l (cases_lt i 7))

  took_back : get_or b 0 (pos 0) ≡ pos k → get_or b w (pos 0) ≡ pos 0
      → set (set (set (took b k w) (record_at k + 7) (get_or (took b k w) 0 (pos 0))) 0 (pos k)) w (pos 0) ≡ b
  took_back head nil =
      let c = took b k w in
      let j = record_at k + 7 in
      ap (λ a. set (set (set c j a) 0 (pos k)) w (pos 0)) took_head
      ∙ ap (λ a. set (set (set c j (get_or b j (pos 0))) 0 a) w (pos 0)) (sym head)
      ∙ ap (λ a. set (set (set c j (get_or b j (pos 0))) 0 (get_or b 0 (pos 0))) w a) (sym nil)
      ∙ restored b 0 j w (get_or b j (pos 0)) (pos 0) (pos k) (omega arith) (omega arith) (λ e. out (omega arith) (omega arith))

outside_of : (k w : ℕ) → not (inside (InBook w) k) ≡ true → record_at k ≤ w → w < record_at k + 8 → ⊥
outside_of k w h p q = both_ways (inside (InBook w) k) (not-true (inside (InBook w) k) h) (and_from _ _ (le-leb (record_at k) w p) (lt-ltb w (record_at k + 8) q))

not_from : (t : Bool) → (t ≡ true → ⊥) → not t ≡ true
not_from true h = absurd (h refl)
not_from false h = refl

outside_from : (k w : ℕ) → (record_at k ≤ w → w < record_at k + 8 → ⊥) → not (inside (InBook w) k) ≡ true
outside_from k w out = not_from (inside (InBook w) k) (λ e. out (leb-true (record_at k) w (and_parts _ _ e).0) (ltb-true w (record_at k + 8) (and_parts _ _ e).1))

pub allocated_back : (sc : Script) (l : ℕ) (s t : State) (w : ℕ) → At l s → find s (line_at sc.lines l).x ≡ Ok (InBook w) → 0 < w → w < length s.book
    → allocated sc l s ≡ Ok t → Undone (freed sc l) l s t
allocated_back sc l s t w here spot low high e =
    passed _ _ e λ u at rest.
    let same : u ≡ InBook w = ok_same (sym at ∙ spot) in
    held _ _ _ (rw same at rest) λ nil rest.
    held _ _ _ rest λ head rest.
    held _ _ _ rest λ fit last.
    let b = s.book in
    let k = named b (get_or b 0 (pos 0)) in
    let (some, more) = and_parts _ _ fit in
    let (outside, empty) = and_parts _ _ more in
    let (names, room) = named_is b (get_or b 0 (pos 0)) (ltb-true 0 k some) in
    let out : record_at k ≤ w → w < record_at k + 8 → ⊥ = outside_of k w outside in
    let t' = flipped (go_to (past s.forward l) (write (InBook w) (pos k) (with_book (unlinked b k) s))) in
    let is : named (took b k w) (get_or (took b k w) w (pos 0)) ≡ k =
    ap (named (took b k w)) (took_ref b k w low high room out ∙ sym names) ∙ named_same (took b k w) b (get_or b 0 (pos 0)) (took_length b k w low high room out) in
    rw (sym (ok_same last)) (
      refl,
      refl,
      freed_at sc l t' (InBook w) spot k is some (took_clear b k w low high room out empty)
          ∙ ap₂ {C = Result State Refusal} (λ p c. Ok (go_to p (with_book c (flipped s)))) (sym here)
          (took_back b k w low high room out names (eq_z_true (get_or b w (pos 0)) (pos 0) nil)),
    )

module _ (sc : Script) (l : ℕ) (s : State) (u : Spot) (spot : find s (line_at sc.lines l).x ≡ Ok u) where
  allocated_at : (k : ℕ) → eq_z (read s u) (pos 0) ≡ true → not (eq_z (get_or s.book 0 (pos 0)) (pos 0)) ≡ true → named s.book (get_or s.book 0 (pos 0)) ≡ k
      → (ltb 0 k && (not (inside u k) && clear s.book 7 k)) ≡ true
      → allocated sc l s ≡ go l (write u (pos k) (with_book (unlinked s.book k) s))
  unfolding ◌>>=◌ need
  allocated_at k nil head is fit = rw (spot, nil, head, is, fit)

-- a book to whose free list record k is linked, and then word w cleared
abbrev linked : List ℤ → ℕ → List ℤ
linked b k = set b (record_at k + 7) (get_or b 0 (pos 0))

abbrev free_first : List ℤ → ℕ → List ℤ
free_first b k = set (linked b k) 0 (pos k)

abbrev gave : List ℤ → ℕ → ℕ → List ℤ
gave b k w = set (free_first b k) w (pos 0)

module _ (b : List ℤ) (k w : ℕ) (low : 0 < w) (high : w < length b) (some : 0 < k) (room : record_at k + 7 < length b) (held : get_or b w (pos 0) ≡ pos k) (h : clear b 8 k ≡ true) where
  gave_outside : record_at k ≤ w → w < record_at k + 8 → ⊥
  gave_outside p q =
      let i = w - record_at k in
      let e : record_at k + i ≡ w = omega arith in
      let z : pos k ≡ pos 0 = sym held ∙ ap (λ n. get_or b n (pos 0)) (sym e) ∙ clear_at b 8 k i h (omega arith) in
      let n : k ≡ 0 = ap nat_abs z in
      omega arith

  gave_length : length (gave b k w) ≡ length b
  gave_length = simp length-set

  gave_ref : get_or (gave b k w) w (pos 0) ≡ pos 0
  gave_ref = get_or-set_same (free_first b k) w (pos 0) (pos 0) (simp length-set high)

  gave_head : get_or (gave b k w) 0 (pos 0) ≡ pos k
  gave_head = get_or-set_other (free_first b k) w 0 (pos 0) (pos 0) (omega arith) ∙ get_or-set_same (linked b k) 0 (pos k) (pos 0) (simp length-set (omega arith))

  gave_link : get_or (gave b k w) (record_at k + 7) (pos 0) ≡ get_or b 0 (pos 0)
  gave_link =
      get_or-set_other (free_first b k) w (record_at k + 7) (pos 0) (pos 0) (λ e. gave_outside (omega arith) (omega arith))
      ∙ get_or-set_other (linked b k) 0 (record_at k + 7) (pos k) (pos 0) (omega arith)
      ∙ get_or-set_same b (record_at k + 7) (get_or b 0 (pos 0)) (pos 0) room

  gave_clear : clear (gave b k w) 7 k ≡ true
  gave_clear = clear_from (gave b k w) 7 k (λ i l.
      get_or-set_other (free_first b k) w (record_at k + i) (pos 0) (pos 0) (λ e. gave_outside (omega arith) (omega arith))
      ∙ get_or-set_other (linked b k) 0 (record_at k + i) (pos k) (pos 0) (omega arith)
      ∙ get_or-set_other b (record_at k + 7) (record_at k + i) (get_or b 0 (pos 0)) (pos 0) (omega arith)
      ∙ clear_at b 8 k i h (omega arith))

  gave_back : took (gave b k w) k w ≡ b
  gave_back =
      let c = gave b k w in
      let j = record_at k + 7 in
      ap (λ a. set (set (set c 0 a) j (pos 0)) w (pos k)) gave_link
      ∙ ap (λ a. set (set (set c 0 (get_or b 0 (pos 0))) j a) w (pos k)) (sym (clear_at b 8 k 7 h (omega arith)))
      ∙ ap (λ a. set (set (set c 0 (get_or b 0 (pos 0))) j (get_or b j (pos 0))) w a) (sym held)
      ∙ restored b j 0 w (get_or b 0 (pos 0)) (pos k) (pos 0) (omega arith) (λ e. gave_outside (omega arith) (omega arith)) (omega arith)

pub freed_back : (sc : Script) (l : ℕ) (s t : State) (w : ℕ) → At l s → find s (line_at sc.lines l).x ≡ Ok (InBook w) → 0 < w → w < length s.book
    → freed sc l s ≡ Ok t → Undone (allocated sc l) l s t
freed_back sc l s t w here spot low high e =
    passed _ _ e λ u at rest.
    let same : u ≡ InBook w = ok_same (sym at ∙ spot) in
    held _ _ _ (rw same at rest) λ some rest.
    held _ _ _ rest λ empty last.
    let b = s.book in
    let k = named b (get_or b w (pos 0)) in
    let more : 0 < k = ltb-true 0 k some in
    let (names, room) = named_is b (get_or b w (pos 0)) more in
    let t' = flipped (go_to (past s.forward l) (write (InBook w) (pos 0) (with_book (free_first b k) s))) in
    let ref = gave_ref b k w low high more room names empty in
    let head = gave_head b k w low high more room names empty in
    let out = gave_outside b k w low high more room names empty in
    let is : named (gave b k w) (get_or (gave b k w) 0 (pos 0)) ≡ k =
    ap (named (gave b k w)) (head ∙ sym names) ∙ named_same (gave b k w) b (get_or b w (pos 0)) (gave_length b k w low high more room names empty) in
    rw (sym (ok_same last)) (
      refl,
      refl,
      allocated_at sc l t' (InBook w) spot k (eq_z_from _ _ ref) (ap (λ z. not (eq_z z (pos 0))) head ∙ not_from_false _ (ne_eqb k 0 (omega arith))) is
          (and_from _ _ some (and_from _ _ (outside_from k w out) (gave_clear b k w low high more room names empty)))
          ∙ ap₂ {C = Result State Refusal} (λ p c. Ok (go_to p (with_book c (flipped s)))) (sym here) (gave_back b k w low high more room names empty),
    )
