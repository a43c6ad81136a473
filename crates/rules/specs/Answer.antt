-- Refusals and their numbers, and chains of tests of which the first that fails refuses.
use Rattle.std.specs.Prelude.{ℕ, Bool, true, false, Ok, Err, Result}
use Rattle.rules.specs.declared.Refusal.{Refusal}
use Rattle.rules.specs.declared.Refusal.TheVariants.{TooLong, Unknown, Unpaired, WrongMethod, Malformed, SelfNamed, NoBook, NoSuchWord, TestFailed, ZeroDivisor, NoRecord, NotClear, NoFree, FreeUnfit, Changed, TooDeep, OutOfBudget, NoSuchMethod, ListFull, NothingStands, SomethingStands}

-- the number of each refusal; none is 0, which is success
abbrev pub number : Refusal → ℕ
number TooLong = 1
number Unknown = 2
number Unpaired = 3
number WrongMethod = 4
number Malformed = 5
number SelfNamed = 6
number NoBook = 7
number NoSuchWord = 9
number TestFailed = 10
number ZeroDivisor = 11
number NoRecord = 12
number NotClear = 13
number NoFree = 14
number FreeUnfit = 15
number Changed = 16
number TooDeep = 17
number OutOfBudget = 18
number NoSuchMethod = 20
number ListFull = 21
number NothingStands = 22
number SomethingStands = 23

-- the first value goes on, a refusal ends the chain
infixr 10 ◌>>=◌
unfoldable pub ◌>>=◌ : {A B : Type 0} → Result A Refusal → (A → Result B Refusal) → Result B Refusal
◌>>=◌ (Ok a) f = f a
◌>>=◌ (Err r) f = Err r

-- the test must hold, or this is the refusal
unfoldable pub need : Bool → Refusal → Result (Unit {0}) Refusal
need true r = Ok tt
need false r = Err r

-- one way on for a value, another for a refusal
abbrev pub either : {A B : Type 0} → Result A Refusal → (A → B) → (Refusal → B) → B
either (Ok a) f g = f a
either (Err r) f g = g r
