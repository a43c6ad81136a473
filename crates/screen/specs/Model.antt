-- The screen of the rules that a screen stands for, and its answers as numbers.
use Rattle.std.specs.Prelude.{◌≡◌, ℕ, false, List, map, ℤ, pos, Ok, Err, Result}
use Rattle.reversible.specs.Machine.{refused}
use Rattle.reversible.specs.Ledger.{Entry, entry, Screen as Model, Answer, success, refusal, seen, gate}
use Rattle.rules.specs.Answer.{number}
use Rattle.rules.specs.Book.{is_book}
use Rattle.rules.specs.Script.{Script, has_method}
use Rattle.rules.specs.Run.{machine}
use Rattle.rules.specs.Ledger.{screen_rules}
use Rattle.rules.specs.declared.Refusal.{Refusal}
use Rattle.script.specs.Programs.{script_of}
use Rattle.runs.specs.declared.Stopped.{Stopped}
use Rattle.screen.specs.declared.parts.Standing.{Standing}
use Rattle.screen.specs.declared.parts.Screen.{Screen}

abbrev pub entry_of : Standing → Entry
entry_of s = entry s.method s.steps

abbrev pub standing_of : {S : Type 0} → Screen S → List Entry
standing_of s = map entry_of s.standing.items

abbrev pub model : {S : Type 0} → (S → List ℤ) → Screen S → Model (List ℤ) Script
model book s = record { book = book s.store; script = script_of s.program; standing = standing_of s }

-- a run's answer as the screen's
abbrev pub answered : Result ℕ Stopped → Answer ℤ Refusal
answered (Ok n) = success n
answered (Err s) = refusal s.refusal s.line s.steps

-- the three numbers of load, apply and back: refusal, line and steps
abbrev pub three : Answer ℤ Refusal → ℕ × ℕ × ℕ
three (success n) = (0, 0, n)
three (refusal r l n) = (number r, l, n)
three (seen w) = (0, 0, 0)

-- the two numbers of look: refusal and word
abbrev pub two : Answer ℤ Refusal → ℕ × ℤ
two (success n) = (0, pos 0)
two (refusal r l n) = (number r, pos 0)
two (seen (Ok w)) = (0, w)
two (seen (Err r)) = (number r, pos 0)

-- the refusal of an apply where no more may stand
abbrev pub Full : Refusal → Model (List ℤ) Script → ℕ → Type 0
Full r s q = (budget : ℕ) → gate screen_rules (machine s.script) s.book q budget (is_book s.book) (has_method s.script.lines q) false ≡ refused r 0 0 s.book
