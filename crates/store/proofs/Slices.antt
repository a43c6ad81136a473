-- Books in slices of words and of bytes.
use Rattle.std.proofs.Common.{◌≡◌, ℕ, zero, suc, ◌+◌, ◌*◌, ◌/◌, ◌%◌, ◌^◌, ◌<◌, ◌≤◌, ◌≢◌, List, [], length, get_or, take, drop, set, ℤ, pos, refl, sym, ap, ◌∙◌, subst, ⊎_elim, arith, Fits, w8, w32, to_z, of_z}
use native.Mathlib.Nat.{add-zero}
use borrow.Rule.Slice.PartMut.{put_mid}
use Rattle.std.specs.Int.{int_wrap, from_be_bytes, to_be_bytes}
use Rattle.std.specs.Simd.{first_chunks}
use Rattle.std.proofs.lemmas.Int.{to_z-of_z, int_wrap_fits}
use Rattle.std.proofs.Math.Facts.{Fits-of_z}
use Rattle.std.proofs.lemmas.Nat.{from_be_bytes-to_be_bytes_4}
use Rattle.std.proofs.lemmas.List.{length-set, get_or-set_same, get_or-set_other, get_or-take, get_or-drop, drop-drop, drop-take, take_at, drop_at, length-append, length-take, length-drop, length-take-le}
use Rattle.std.proofs.lemmas.Slice.{take-put_mid_below, drop-put_mid}
use Rattle.std.proofs.lemmas.Bool.{cases_order}
use Rattle.std.proofs.lemmas.Bool.Decides.{nat_tests}
use Rattle.rules.specs.Word.{word}
use Rattle.store.specs.Layout.{tab, held, held_in_bytes, words_book, bytes_book, byte_word}
use Rattle.store.specs.Held.{Word, length_tab, get_or_tab}
use Rattle.store.proofs.Tabs.{tab_set}

-- a word is what its bits say
pub word_own : (z : ℤ) → Word z → to_z w32 (of_z w32 z) ≡ word z
word_own z f = to_z-of_z w32 z f ∙ sym (int_wrap_fits w32 z f)

word_bits : (n : ℕ) → n < 2 ^ 32 → to_z w32 n ≡ word (pos n)
unfolding int_wrap
word_bits n h = let e : n ≡ n % 2 ^ 32 = omega arith in ap (to_z w32) e

-- a word put where it was found, written by the code's own place and value, is the word w made v
pub put_as : {X : Type 0} (book : X → List ℤ) (put : X → ℕ → ℤ → X) (before after : X) (k w : ℕ) (v : ℤ) → Word v → after ≡ put before k (to_z w32 (of_z w32 v)) → k ≡ w → book (put before w v) ≡ set (book before) w v → book after ≡ set (book before) w v
put_as book put before after k w v f e q s =
    ap book e ∙ ap (λ i. book (put before i (to_z w32 (of_z w32 v)))) q ∙ ap (λ x. book (put before w x)) (to_z-of_z w32 v f) ∙ s

-- ---- words

words_room : (xs : List ℤ) (i : ℕ) → i < length (words_book xs) → i < length xs
words_room xs i h =
    let k : i < held (length xs) = subst (λ n. i < n) (length_tab _ _) h in
    grind (arith, nat_tests)

pub words_at : (xs : List ℤ) (i : ℕ) → i < length (words_book xs) → word (get_or xs i (pos 0)) ≡ get_or (words_book xs) i (pos 0)
words_at xs i h = sym (get_or_tab _ _ i (pos 0) (subst (λ n. i < n) (length_tab _ _) h))

pub words_set : (xs : List ℤ) (w : ℕ) (v : ℤ) → Word v → w < length (words_book xs) → words_book (set xs w v) ≡ set (words_book xs) w v
words_set xs w v f h =
    let P : ℕ → Type 0 = λ n. tab (λ i. word (get_or (set xs w v) i (pos 0))) (held n) ≡ set (words_book xs) w v in
    subst P (sym (length-set xs w v))
    (tab_set _ _ (held (length xs)) w v
    (λ i _ ne. ap word (get_or-set_other xs w i v (pos 0) ne))
    (λ _. ap word (get_or-set_same xs w v (pos 0) (words_room xs w h)) ∙ int_wrap_fits w32 v f))

-- ---- bytes

-- the four bytes of word i
abbrev four : List ℕ → ℕ → List ℕ
four bs i = take 4 (drop (4 * i) bs)

abbrev joined : List ℕ → ℤ
joined bs = word (pos (from_be_bytes w32 bs))

four_at : (bs : List ℕ) (i j : ℕ) → j < 4 → get_or (four bs i) j 0 ≡ get_or bs (4 * i + j) 0
four_at bs i j h = get_or-take 4 (drop (4 * i) bs) j 0 h ∙ get_or-drop (4 * i) bs j 0

word_joined : (bs : List ℕ) (i : ℕ) → joined (four bs i) ≡ byte_word bs i
word_joined bs i =
    let a : get_or (four bs i) 0 0 ≡ get_or bs (4 * i) 0 = four_at bs i 0 (omega arith) ∙ ap (λ k. get_or bs k 0) (add-zero (4 * i)) in
    let b = four_at bs i 1 (omega arith) in
    let c = four_at bs i 2 (omega arith) in
    let d = four_at bs i 3 (omega arith) in
    cc

bytes_room : (bs : List ℕ) (i : ℕ) → i < length (bytes_book bs) → (i < length bs / 4) × (4 * i + 4 ≤ length bs)
bytes_room bs i h =
    let k : i < held_in_bytes (length bs) = subst (λ n. i < n) (length_tab _ _) h in
    let r : i < length bs / 4 = grind (arith, nat_tests) in
    (r, omega arith)

chunk_at : (k i : ℕ) (bs : List ℕ) → i < k → get_or (first_chunks 4 k bs) i [] ≡ four bs i
chunk_at zero i bs h = absurd (omega arith)
chunk_at (suc k) zero bs h = refl
chunk_at (suc k) (suc i) bs h =
    let e : 4 + 4 * i ≡ 4 * suc i = omega arith in
    chunk_at k i (drop 4 bs) (omega arith) ∙ ap (take 4) (drop-drop (4 * i) 4 bs ∙ ap (λ k. drop k bs) e)

-- the word that is read
pub bytes_at : (bs : List ℕ) (ws : List (List ℕ)) (i : ℕ) → ((j : ℕ) → Fits w8 (get_or bs j 0)) → ws ≡ first_chunks 4 (length bs / 4) bs → i < length (bytes_book bs) → to_z w32 (from_be_bytes w32 (get_or ws i [])) ≡ get_or (bytes_book bs) i (pos 0)
bytes_at bs ws i f e h =
    let k : get_or ws i [] ≡ four bs i = ap (λ l. get_or l i []) e ∙ chunk_at _ i bs (bytes_room bs i h).0 in
    let byte : (j : ℕ) → j < 4 → get_or (four bs i) j 0 < 256 = λ j l. rw (four_at bs i j l) (f (4 * i + j)).fits in
    let b : from_be_bytes w32 (four bs i) < 2 ^ 32 = omega (arith, byte 0 (omega arith), byte 1 (omega arith), byte 2 (omega arith), byte 3 (omega arith)) in
    ap (λ l. to_z w32 (from_be_bytes w32 l)) k ∙ word_bits _ b ∙ word_joined bs i ∙ sym (get_or_tab _ _ i (pos 0) (subst (λ n. i < n) (length_tab _ _) h))

of_z_below : (v : ℤ) → Word v → of_z w32 v < 2 ^ 32
of_z_below v f = (Fits-of_z f).fits

-- four bytes are written over those of word w: no other word's are altered
four_kept : (bs ys : List ℕ) (w i : ℕ) → length ys ≡ 4 → 4 * w ≤ length bs → i ≢ w → four (put_mid (4 * w) 4 bs ys) i ≡ four bs i
four_kept bs ys w i many room ne =
    let bs' = put_mid (4 * w) 4 bs ys in
    ⊎_elim
    (λ e. absurd (ne e))
    (λ side. ⊎_elim
    (λ l. sym (drop-take (4 * i) 4 bs') ∙ ap (drop (4 * i)) (take-put_mid_below (4 * w) 4 bs ys (4 * i + 4) (omega arith) room) ∙ drop-take (4 * i) 4 bs)
    (λ l. ap (take 4) (drop-put_mid (4 * w) 4 bs ys (4 * i) (omega arith) room many))
    side)
    (cases_order i w)

pub bytes_set : (bs ys : List ℕ) (w : ℕ) (v : ℤ) → Word v → w < length (bytes_book bs) → ys ≡ to_be_bytes w32 (of_z w32 v) → bytes_book (put_mid (4 * w) 4 bs ys) ≡ set (bytes_book bs) w v
bytes_set bs ys w v f h e =
    let room : 4 * w + 4 ≤ length bs = (bytes_room bs w h).1 in
    let many : length ys ≡ 4 = ap length e in
    let bs' = put_mid (4 * w) 4 bs ys in
    let P : ℕ → Type 0 = λ n. tab (byte_word bs') (held_in_bytes n) ≡ set (bytes_book bs) w v in
    let long : length bs' ≡ length bs = simp (length-append, length-take, length-drop) (omega arith) in
    let front : length (take (4 * w) bs) ≡ 4 * w = length-take-le (4 * w) bs (omega arith) in
    let here : four bs' w ≡ ys = ap (take 4) (drop_at (take (4 * w) bs) _ (4 * w) front) ∙ take_at ys _ 4 many in
    subst P (sym long)
    (tab_set (byte_word bs) (byte_word bs') (held_in_bytes (length bs)) w v
    (λ i _ ne.
    let same : four bs' i ≡ four bs i = four_kept bs ys w i many (omega arith) ne in
    sym (word_joined bs' i) ∙ ap joined same ∙ word_joined bs i)
    (λ _. sym (word_joined bs' w) ∙ ap joined (here ∙ e) ∙ ap (λ n. word (pos n)) (from_be_bytes-to_be_bytes_4 _ (of_z_below v f)) ∙ sym (word_bits _ (of_z_below v f)) ∙ to_z-of_z w32 v f))

pub ruleset of_words = (length_tab, word_own, words_at, words_set)

pub ruleset of_bytes = (length_tab, bytes_at, bytes_set)
