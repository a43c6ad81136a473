-- The state of the rules that a work state and a book stand for.
use Rattle.std.specs.Prelude.{◌≡◌, ℕ, Bool, true, false, List, [], reverse, take, ℤ, Some, None, Option}
use Rattle.rules.specs.Script.{Script, has_method}
use Rattle.rules.specs.Step.{State}
use Rattle.rules.specs.Run.{start}
use Rattle.work.specs.declared.parts.Work.{Work}

abbrev pub state : Work → List ℤ → State
state w b =
    record {
      position = w.position;
      forward = w.forward;
      present = w.present;
      locals = take w.opened w.locals;
      frames = reverse w.frames.items;
      book = b;
    }

-- method q, if there is that method
abbrev pub Method : Option ℕ → Script → ℕ → Type 0
Method None sc q = has_method sc.lines q ≡ false
Method (Some m) sc q = (has_method sc.lines q ≡ true) × (m ≡ q)

-- the work state at the start of a run of method q, if there is that method
abbrev pub Started : Option Work → Script → Bool → ℕ → Type 0
Started None sc forward q = has_method sc.lines q ≡ false
Started (Some w) sc forward q = (has_method sc.lines q ≡ true) × (state w [] ≡ start sc forward q [])
