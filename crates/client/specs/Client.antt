-- What calls on any store give, as equations of books.
use Rattle.std.specs.Prelude.{ℕ, cond, ◌||◌, List, length, ℤ, ◌+ℤ◌, Ok, Err, Result, ◌==◌, slice_set}
use Rattle.rules.specs.declared.Refusal.{Refusal}
use Rattle.rules.specs.declared.Refusal.TheVariants.{NoBook, NoSuchWord}
use Rattle.rules.specs.Answer.{either}
use Rattle.rules.specs.Book.{read_of, write_of}
use Rattle.rules.specs.Word.{word}

-- a number added to word w: the sum is given and written, or the refusal of the read
abbrev pub add_answer : List ℤ → ℕ → ℤ → Result ℤ Refusal
add_answer b w n = either (read_of b w) (λ x. Ok (word (x +ℤ n))) (λ e. Err e)

abbrev pub added : List ℤ → ℕ → ℤ → List ℤ
added b w n = either (read_of b w) (λ x. slice_set b w (word (x +ℤ n))) (λ _. b)

-- word w of b copied to c: b refuses first, then c
abbrev pub copy_word_answer : List ℤ → List ℤ → ℕ → Result (Unit {0}) Refusal
copy_word_answer b c w = either (read_of b w) (λ _. write_of c w) (λ e. Err e)

abbrev pub word_copied : List ℤ → List ℤ → ℕ → List ℤ
word_copied b c w = either (read_of b w) (λ v. slice_set c w v) (λ _. c)

-- all of b copied to c, which must be of the same size
abbrev pub copy_answer : List ℤ → List ℤ → Result (Unit {0}) Refusal
copy_answer b c = cond (length b == 0 || length c == 0) (Err NoBook) (cond (length b == length c) (Ok tt) (Err NoSuchWord))

abbrev pub copied : List ℤ → List ℤ → List ℤ
copied b c = either (copy_answer b c) (λ _. b) (λ _. c)
