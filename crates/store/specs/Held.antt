-- Whatever a store holds is a book or no book, and every word of it is one of 32 bits.
use Rattle.std.specs.Prelude.{◌≡◌, ℕ, ◌/◌, ◌%◌, ◌<◌, true, ◌⊎◌, List, [], ◌∷◌, length, ℤ, pos, negsuc, FitsSigned, ◌==◌, slice_index_or, refl}
use Rattle.std.proofs.Common.{sym, ◌∙◌, ap, subst, inl, inr, ⊎_elim, arith}
use Rattle.std.specs.Int.{w32}
use Rattle.std.specs.List.{AllByRecursion}
use Rattle.std.proofs.lemmas.Int.{SFits-int_wrap, int_wrap_fits}
use Rattle.std.proofs.lemmas.List.FromFn.{length-map-range_with_len, get_or-map-range_with_len}
use Rattle.std.proofs.ByRecursion.{All-from_get_or, All-get_or}
use Rattle.std.proofs.lemmas.Bool.{cond_both, eq-eqb, eqb-true, and_parts, and_from}
use Rattle.rules.specs.Word.{eq_z, word}
use Rattle.rules.specs.Book.{fits, all_words, Held}
use Rattle.store.specs.Layout.{tab, held, held_in_bytes, words_book, bytes_book, is_mark, moved}

-- a signed number of 32 bits
abbrev pub Word : ℤ → Type 0
Word z = FitsSigned w32 z

eq_z_refl : (z : ℤ) → eq_z z z ≡ true
eq_z_refl (pos n) = eq-eqb n n refl
eq_z_refl (negsuc n) = eq-eqb n n refl

eq_z_same : (y z : ℤ) → eq_z y z ≡ true → y ≡ z
eq_z_same (pos m) (pos n) h = ap pos (eqb-true m n h)
eq_z_same (negsuc m) (negsuc n) h = ap negsuc (eqb-true m n h)
eq_z_same (pos m) (negsuc n) h = cc
eq_z_same (negsuc m) (pos n) h = cc

words_from_all : (b : List ℤ) → AllByRecursion Word b → all_words b ≡ true
words_from_all [] h = refl
words_from_all (z ∷ b) h = and_from _ _ (ap (λ y. eq_z y z) (int_wrap_fits w32 z h.0) ∙ eq_z_refl z) (words_from_all b h.1)

all_from_words : (b : List ℤ) → all_words b ≡ true → AllByRecursion Word b
all_from_words [] h = tt
all_from_words (z ∷ b) h =
    let p = and_parts (eq_z (word z) z) (all_words b) h in
    (subst Word (eq_z_same (word z) z p.0) (SFits-int_wrap w32 z), all_from_words b p.1)

-- each word of what a store holds has 32 bits
pub held_word : (b : List ℤ) → Held b → (i : ℕ) → i < length b → Word (slice_index_or b i (pos 0))
held_word b k i h =
    ⊎_elim
    (λ e. absurd (let z : i < 0 = subst (λ n. i < n) e h in omega arith))
    (λ e. All-get_or Word b i (pos 0) h (all_from_words b (and_parts (fits (length b)) (all_words b) e).1))
    k

-- the length of a book, or none
abbrev pub Sized : ℕ → Type 0
Sized n = (n ≡ 0) ⊎ (fits n ≡ true)

pub held_size : (b : List ℤ) → Held b → Sized (length b)
held_size b k = ⊎_elim (λ e. inl e) (λ e. inr (and_parts (fits (length b)) (all_words b) e).0) k

pub length_tab : (f : ℕ → ℤ) (n : ℕ) → length (tab f n) ≡ n
unfolding tab
length_tab f n = length-map-range_with_len f 0 n

pub get_or_tab : (f : ℕ → ℤ) (n i : ℕ) (d : ℤ) → i < n → slice_index_or (tab f n) i d ≡ f i
unfolding tab
get_or_tab f n i d h = get_or-map-range_with_len f 0 n i i d h (omega arith)

pub tab_held : (f : ℕ → ℤ) (n : ℕ) → Sized n → ((i : ℕ) → i < n → Word (f i)) → Held (tab f n)
tab_held f n s ws =
    let all : AllByRecursion Word (tab f n) =
    All-from_get_or Word (tab f n) (pos 0) (λ i h. let k : i < n = omega (arith, length_tab f n) in subst Word (sym (get_or_tab f n i (pos 0) k)) (ws i k)) in
    ⊎_elim
    (λ e. inl (length_tab f n ∙ e))
    (λ e. inr (and_from _ _ (ap fits (length_tab f n) ∙ e) (words_from_all (tab f n) all)))
    s

pub held_sized : (n : ℕ) → Sized (held n)
held_sized n = cond_both (fits n) n 0 Sized (λ e. inr e) (λ _. inl refl)

pub held_in_bytes_sized : (n : ℕ) → Sized (held_in_bytes n)
held_in_bytes_sized n = cond_both (n % 4 == 0) (held (n / 4)) 0 Sized (λ _. held_sized (n / 4)) (λ _. inl refl)

pub words_held : (xs : List ℤ) → Held (words_book xs)
words_held xs = tab_held _ _ (held_sized (length xs)) (λ i h. SFits-int_wrap w32 _)

pub bytes_held : (bs : List ℕ) → Held (bytes_book bs)
bytes_held bs = tab_held _ _ (held_in_bytes_sized (length bs)) (λ i h. SFits-int_wrap w32 _)

pub moved_held : (ms b : List ℤ) → Held b → Held (moved ms b)
moved_held ms b k =
    tab_held _ _ (held_size b k) (λ i h. cond_both (is_mark i) _ _ Word (λ _. SFits-int_wrap w32 _) (λ _. held_word b k i h))
