-- The book that each kind of store holds, as a table of its words.
use Rattle.std.specs.Prelude.{ℕ, ◌+◌, ◌-◌, ◌*◌, ◌/◌, ◌%◌, Bool, cond, ◌&&◌, List, map, length, set, ℤ, pos, ◌+ℤ◌, ◌-ℤ◌, Ok, Err, Result, ◌==◌, nat_le, nat_lt, slice_index, slice_index_or, slice_set}
use Rattle.std.specs.List.{range_with_len}
use Rattle.rules.specs.declared.Refusal.{Refusal}
use Rattle.rules.specs.declared.Refusal.TheVariants.{NoBook, NoSuchWord}
use Rattle.rules.specs.Answer.{either}
use Rattle.rules.specs.Book.{fits, read_of}
use Rattle.rules.specs.Word.{word}

-- the n words that f gives
unfoldable pub tab : (ℕ → ℤ) → ℕ → List ℤ
tab f n = map f (range_with_len 0 n)

-- x where word w can be reached among n words, and otherwise why not
abbrev pub reached_in : {A : Type 0} → ℕ → ℕ → A → Result A Refusal
reached_in n w x = cond (n == 0) (Err NoBook) (cond (nat_lt w n) (Ok x) (Err NoSuchWord))

-- ---- a slice of words

-- how many words n places hold: all, or none where n words are no book
abbrev pub held : ℕ → ℕ
held n = cond (fits n) n 0

abbrev pub words_book : List ℤ → List ℤ
words_book xs = tab (λ i. word (slice_index_or xs i (pos 0))) (held (length xs))

-- ---- a slice of bytes, four to a word, the highest first

-- how many words n bytes hold: none where they make no whole words
abbrev pub held_in_bytes : ℕ → ℕ
held_in_bytes n = cond (n % 4 == 0) (held (n / 4)) 0

abbrev pub byte_word : List ℕ → ℕ → ℤ
byte_word bs i = word (pos (slice_index bs (4 * i) * 16777216 + slice_index bs (4 * i + 1) * 65536 + slice_index bs (4 * i + 2) * 256 + slice_index bs (4 * i + 3)))

abbrev pub bytes_book : List ℕ → List ℤ
bytes_book bs = tab (byte_word bs) (held_in_bytes (length bs))

-- ---- moves over a book

-- m 1 to m 64 are words 1 to 64
abbrev pub is_mark : ℕ → Bool
is_mark w = nat_le 1 w && nat_le w 64

-- what word i was moved by
abbrev pub move_of : List ℤ → ℕ → ℤ
move_of ms i = cond (is_mark i) (slice_index_or ms (i - 1) (pos 0)) (pos 0)

-- word i as it is seen through the moves, where x stands below
abbrev pub seen : List ℤ → ℕ → ℤ → ℤ
seen ms i x = cond (is_mark i) (word (x +ℤ slice_index_or ms (i - 1) (pos 0))) x

abbrev pub moved : List ℤ → List ℤ → List ℤ
moved ms b = tab (λ i. seen ms i (slice_index_or b i (pos 0))) (length b)

-- the moves after mark w is made v over b: that mark's move is what v is above the word below, and where there is no book none changes
abbrev pub mark_moved : List ℤ → List ℤ → ℕ → ℤ → List ℤ
mark_moved ms b w v = either (read_of b w) (λ x. set ms (w - 1) (word (v -ℤ x))) (λ _. ms)

-- the moves after any word is written
abbrev pub moves_after : List ℤ → List ℤ → ℕ → ℤ → List ℤ
moves_after ms b w v = cond (is_mark w) (mark_moved ms b w v) ms

-- the book below after the same write: a mark leaves it as it was
abbrev pub below_after : List ℤ → ℕ → ℤ → List ℤ
below_after b w v = cond (is_mark w) b (slice_set b w v)
