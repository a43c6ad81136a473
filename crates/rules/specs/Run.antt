-- The machine that a script makes. How a machine runs with a budget is defined in `reversible`, for any machine.
use Rattle.std.specs.Prelude.{ℕ, Bool, true, false, List, [], ℤ}
use Rattle.reversible.specs.Machine.{Machine, Dir, fwd, bwd, Next, finish, go, stop, Outcome, done, refused}
use Rattle.rules.specs.Answer.{either, number}
use Rattle.rules.specs.Book.{is_book}
use Rattle.rules.specs.Script.{Script, has_method}
use Rattle.rules.specs.Step.{State, step, finished, flipped, turn_of, entry}
use Rattle.rules.specs.declared.Refusal.{Refusal}
use Rattle.rules.specs.declared.Refusal.TheVariants.{NoBook, NoSuchMethod, OutOfBudget}

abbrev pub ahead : Dir → Bool
ahead fwd = true
ahead bwd = false

-- a run of method q starts with no frames, no locals and no present record
abbrev pub start : Script → Bool → ℕ → List ℤ → State
start sc forward q b =
    record { position = entry sc forward q; forward = forward; present = 0; locals = []; frames = []; book = b }

-- first whether the run is finished, then the step
abbrev pub next : Script → State → Next State Refusal
next sc s = elim (finished sc s) [ true ↦ finish | false ↦ either (step sc s) go stop ]

abbrev pub machine : Script → Machine State (List ℤ) Refusal
machine sc = record {
  is_book = is_book;
  has = has_method sc.lines;
  enter = λ q d b. start sc (ahead d) q b;
  step = next sc;
  flip = flipped;
  line = turn_of;
  book = λ s. s.book;
  no_book = NoBook;
  no_method = NoSuchMethod;
  no_budget = OutOfBudget;
}

-- the three numbers of a run: refusal, line and steps
abbrev pub numbers : Outcome (List ℤ) Refusal → ℕ × ℕ × ℕ
numbers (done n b) = (0, 0, n)
numbers (refused r l n b) = (number r, l, n)
