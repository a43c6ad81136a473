-- What refusals are called, and which numbers are a refusal's.
use Rattle.std.specs.Prelude.{◌≡◌, ◌≢◌, ℕ, List, Result, MatchResult, codes}
use Rattle.rules.specs.declared.Refusal.{Refusal}
use Rattle.rules.specs.declared.Refusal.TheVariants.{TooLong, Unknown, Unpaired, WrongMethod, Malformed, SelfNamed, NoBook, NoSuchWord, TestFailed, ZeroDivisor, NoRecord, NotClear, NoFree, FreeUnfit, Changed, TooDeep, OutOfBudget, NoSuchMethod, ListFull, NothingStands, SomethingStands}
use Rattle.rules.specs.declared.numbers.NoRefusal.{NoRefusal}
use Rattle.rules.specs.Answer.{number}

-- the refusal with this number; where none has it, the number
abbrev pub Names : ℕ → Result Refusal NoRefusal → Type 0
Names n r = MatchResult r (λ refusal. number refusal ≡ n) (λ e. (e.0 ≡ n) × ((refusal : Refusal) → number refusal ≢ n))

abbrev pub meaning : Refusal → List ℕ
meaning TooLong = codes "a table is too long"
meaning Unknown = codes "a kind, place or method is unknown, or an unused field is filled"
meaning Unpaired = codes "pairs do not match"
meaning WrongMethod = codes "a method is doubled or missing"
meaning Malformed = codes "an expression or a place is malformed"
meaning SelfNamed = codes "a place is named in its own expression"
meaning NoBook = codes "there is no book on this card"
meaning NoSuchWord = codes "the book has no such word"
meaning TestFailed = codes "a test failed"
meaning ZeroDivisor = codes "division by zero"
meaning NoRecord = codes "no record"
meaning NotClear = codes "not clear or not equal"
meaning NoFree = codes "no free record"
meaning FreeUnfit = codes "the free record is unfit"
meaning Changed = codes "the record was changed under a call"
meaning TooDeep = codes "too deep"
meaning OutOfBudget = codes "the budget is used up"
meaning NoSuchMethod = codes "no such method"
meaning ListFull = codes "as many methods stand as may"
meaning NothingStands = codes "nothing stands"
meaning SomethingStands = codes "something stands"

abbrev pub no_meaning : List ℕ
no_meaning = codes "no refusal has this number"
