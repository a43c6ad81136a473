-- Books: how their words lie, and what reading and writing one word give.
-- Word 0 is the free head, m i is word i, r i is word 64 + i, and record k is words 73 + 8k to 80 + 8k: n0 to n3, then f0 to f3.
use Rattle.std.specs.Prelude.{◌≡◌, ℕ, ◌+◌, ◌-◌, ◌*◌, ◌/◌, ◌%◌, Bool, true, cond, ◌&&◌, ◌⊎◌, List, [], ◌∷◌, length, take, drop, ℤ, pos, negsuc, Ok, Err, Result, ◌==◌, nat_le, nat_lt, slice_index_or}
use Rattle.rules.specs.Word.{eq_z, word}
use Rattle.rules.specs.declared.Refusal.{Refusal}
use Rattle.rules.specs.declared.Refusal.TheVariants.{NoBook, NoSuchWord}

-- a book has 81 + 8R words, R from 0 to 1,000
abbrev pub fits : ℕ → Bool
fits n = nat_le 81 n && (nat_le n 8081 && (n - 81) % 8 == 0)

abbrev pub all_words : List ℤ → Bool
all_words [] = true
all_words (w ∷ ws) = eq_z (word w) w && all_words ws

abbrev pub is_book : List ℤ → Bool
is_book b = fits (length b) && all_words b

-- what a store may hold: a book, or the empty list, which means no book
abbrev pub Held : List ℤ → Type 0
Held b = (length b ≡ 0) ⊎ (is_book b ≡ true)

-- ---- one word

-- x where word w can be reached, and otherwise why not
abbrev pub reached : {A : Type 0} → List ℤ → ℕ → A → Result A Refusal
reached b w x = cond (length b == 0) (Err NoBook) (cond (nat_lt w (length b)) (Ok x) (Err NoSuchWord))

abbrev pub read_of : List ℤ → ℕ → Result ℤ Refusal
read_of b w = reached b w (slice_index_or b w (pos 0))

-- the answer to a write; the book after it is `set b w v`, which leaves a book alone past its end
abbrev pub write_of : List ℤ → ℕ → Result (Unit {0}) Refusal
write_of b w = reached b w tt

-- ---- records

abbrev pub records : List ℤ → ℕ
records b = (length b - 81) / 8

-- the first word of record k
abbrev pub record_at : ℕ → ℕ
record_at k = 73 + 8 * k

-- the record that a reference names, 0 for none
abbrev pub named : List ℤ → ℤ → ℕ
named b (pos k) = cond (nat_le k (records b)) k 0
named b (negsuc k) = 0

abbrev pub all_zero : List ℤ → Bool
all_zero [] = true
all_zero (w ∷ ws) = eq_z w (pos 0) && all_zero ws

-- the first n words of record k are 0
abbrev pub clear : List ℤ → ℕ → ℕ → Bool
clear b n k = all_zero (take n (drop (record_at k) b))
