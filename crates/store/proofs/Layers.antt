-- Moves over a book.
use Rattle.std.proofs.Common.{◌≡◌, Ok, ℕ, ◌-◌, ◌<◌, ◌≤◌, true, false, leb, ◌≢◌, List, length, get_or, set, replicate, ℤ, pos, ◌+ℤ◌, ◌-ℤ◌, sym, refl, ap, ◌∙◌, subst, ⊎_elim, arith, w32}
use Rattle.std.proofs.lemmas.Int.{int_wrap_fits, int_wrap-add_right, ints}
use Rattle.std.proofs.lemmas.List.{length-set, get_or-set_same, get_or-set_other, get_or-replicate}
use Rattle.std.proofs.lemmas.List.FromFn.{fill_by_all}
use Rattle.std.proofs.lemmas.Bool.{cases_Bool, cases_lt, cond_both, cond-true, cond-false, and_parts, leb-true}
use Rattle.std.proofs.lemmas.Bool.Decides.{nat_tests}
use Rattle.rules.specs.Word.{word}
use Rattle.rules.specs.Book.{Held, read_of}
use Rattle.store.specs.Layout.{tab, is_mark, move_of, seen, moved, mark_moved}
use Rattle.store.specs.Held.{Word, held_word, length_tab}
use Rattle.store.proofs.Tabs.{tab_set, tab_past, given_in, read_tab}

pub mark_least : (w : ℕ) → is_mark w ≡ true → 1 ≤ w
mark_least w m = leb-true 1 w (and_parts (leb 1 w) (leb w 64) m).0

pub mark_most : (w : ℕ) → is_mark w ≡ true → w ≤ 64
mark_most w m = leb-true w 64 (and_parts (leb 1 w) (leb w 64) m).1

-- the word below, plus what is missing
restores : (b v : ℤ) → Word v → word (b +ℤ word (v -ℤ b)) ≡ v
restores b v f =
    let e : b +ℤ (v -ℤ b) ≡ v = omega (arith, ints) in
    int_wrap-add_right w32 b (v -ℤ b) ∙ ap word e ∙ int_wrap_fits w32 v f

-- what is seen is the word below plus its move
seen_sum : (ms : List ℤ) (i : ℕ) (x : ℤ) → Word x → word (x +ℤ move_of ms i) ≡ seen ms i x
seen_sum ms i x f =
    let z : x +ℤ pos 0 ≡ x = omega (arith, ints) in
    ⊎_elim
    (λ e. ap (λ m. word (x +ℤ m)) (cond-true (is_mark i) _ _ e) ∙ sym (cond-true (is_mark i) _ _ e))
    (λ e. ap (λ m. word (x +ℤ m)) (cond-false (is_mark i) _ _ e) ∙ ap word z ∙ int_wrap_fits w32 x f ∙ sym (cond-false (is_mark i) _ _ e))
    (cases_Bool (is_mark i))

-- a move shows at its own mark alone
seen_other : (ms : List ℤ) (w : ℕ) (m : ℤ) (i : ℕ) (x : ℤ) → is_mark w ≡ true → i ≢ w → seen (set ms (w - 1) m) i x ≡ seen ms i x
seen_other ms w m i x k ne =
    ⊎_elim
    (λ e.
    let wl : 1 ≤ w = mark_least w k in
    let il : 1 ≤ i = mark_least i e in
    let n : i - 1 ≢ w - 1 = λ q. ne (omega arith) in
    cond-true (is_mark i) _ _ e ∙ ap (λ y. word (x +ℤ y)) (get_or-set_other ms (w - 1) (i - 1) m (pos 0) n) ∙ sym (cond-true (is_mark i) _ _ e))
    (λ e. cond-false (is_mark i) _ _ e ∙ sym (cond-false (is_mark i) _ _ e))
    (cases_Bool (is_mark i))

seen_here : (ms : List ℤ) (w : ℕ) (m x : ℤ) → is_mark w ≡ true → length ms ≡ 64 → seen (set ms (w - 1) m) w x ≡ word (x +ℤ m)
seen_here ms w m x k l =
    let lo : 1 ≤ w = mark_least w k in
    let hi : w ≤ 64 = mark_most w k in
    cond-true (is_mark w) _ _ k ∙ ap (λ y. word (x +ℤ y)) (get_or-set_same ms (w - 1) m (pos 0) (omega arith))

-- changing one move
moved_set_move : (ms b : List ℤ) (w : ℕ) (v : ℤ) → Word v → is_mark w ≡ true → length ms ≡ 64
    → moved (set ms (w - 1) (word (v -ℤ get_or b w (pos 0)))) b ≡ set (moved ms b) w v
moved_set_move ms b w v f k l =
    let m = word (v -ℤ get_or b w (pos 0)) in
    tab_set _ _ (length b) w v
    (λ i _ ne. seen_other ms w m i _ k ne)
    (λ _. seen_here ms w m _ k l ∙ restores (get_or b w (pos 0)) v f)

-- writing another word below
pub moved_set_other : (ms b : List ℤ) (w : ℕ) (v : ℤ) → is_mark w ≡ false → moved ms (set b w v) ≡ set (moved ms b) w v
moved_set_other ms b w v k =
    let P : ℕ → Type 0 = λ n. tab (λ i. seen ms i (get_or (set b w v) i (pos 0))) n ≡ set (moved ms b) w v in
    subst P (sym (length-set b w v))
    (tab_set _ _ (length b) w v
    (λ i _ ne. ap (seen ms i) (get_or-set_other b w i v (pos 0) ne))
    (λ wl. cond-false (is_mark w) _ _ k ∙ get_or-set_same b w v (pos 0) wl))

-- with no move the layer holds what stands below
pub moved_none : (b : List ℤ) → Held b → moved (replicate 64 (pos 0)) b ≡ b
unfolding tab
moved_none b k =
    sym (fill_by_all (λ i. seen (replicate 64 (pos 0)) i (get_or b i (pos 0))) b (length b) (pos 0) refl (λ i h.
    sym (cond_both (is_mark i) _ _ (λ x. x ≡ get_or b i (pos 0))
    (λ e.
    let hi : i ≤ 64 = mark_most i e in
    let lo : 1 ≤ i = mark_least i e in
    let z : get_or (replicate 64 (pos 0)) (i - 1) (pos 0) ≡ pos 0 = get_or-replicate 64 (i - 1) (pos 0) (pos 0) (omega arith) in
    let a : get_or b i (pos 0) +ℤ pos 0 ≡ get_or b i (pos 0) = omega (arith, ints) in
    ap (λ x. word (get_or b i (pos 0) +ℤ x)) z ∙ ap word a ∙ int_wrap_fits w32 _ (held_word b k i h))
    (λ _. refl))))

-- writing a mark moves it where there is a book, and otherwise nothing
pub mark_in : (ms b : List ℤ) (w : ℕ) (v : ℤ) → w < length b → mark_moved ms b w v ≡ set ms (w - 1) (word (v -ℤ get_or b w (pos 0)))
mark_in ms b w v h = grind (arith, nat_tests)

pub mark_past : (ms b : List ℤ) (w : ℕ) (v : ℤ) → length b ≤ w → mark_moved ms b w v ≡ ms
mark_past ms b w v h = grind (arith, nat_tests)

pub moved_set_mark : (ms b : List ℤ) (w : ℕ) (v : ℤ) → Word v → is_mark w ≡ true → length ms ≡ 64 → moved (mark_moved ms b w v) b ≡ set (moved ms b) w v
moved_set_mark ms b w v f k l =
    ⊎_elim
    (λ h. ap (λ x. moved x b) (mark_in ms b w v h) ∙ moved_set_move ms b w v f k l)
    (λ h. ap (λ x. moved x b) (mark_past ms b w v h) ∙ tab_past _ (length b) w v h)
    (cases_lt w (length b))

pub mark_by : (ms b : List ℤ) (w : ℕ) (v : ℤ) → is_mark w ≡ true → length ms ≡ 64 → w < length b → move_of (mark_moved ms b w v) w ≡ word (v -ℤ get_or b w (pos 0))
mark_by ms b w v k l h =
    let lo : 1 ≤ w = mark_least w k in
    let hi : w ≤ 64 = mark_most w k in
    ap (λ x. move_of x w) (mark_in ms b w v h) ∙ cond-true (is_mark w) _ _ k ∙ get_or-set_same ms (w - 1) _ (pos 0) (omega arith)

-- a word below plus its move is what the layer shows
pub shown : (ms b : List ℤ) (w : ℕ) (x : ℤ) → Word x → Ok x ≡ read_of b w → read_of (moved ms b) w ≡ Ok (word (x +ℤ move_of ms w))
shown ms b w x f h =
    let i = given_in (length b) w (get_or b w (pos 0)) x h in
    read_tab _ _ w i.0 ∙ ap Ok (ap (seen ms w) (sym i.1) ∙ sym (seen_sum ms w x f))

pub ruleset layering = (mark_by, mark_past, moved_set_mark, moved_set_other, length_tab)
