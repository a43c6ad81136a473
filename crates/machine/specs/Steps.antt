-- What a step leaves.
use Rattle.std.specs.Prelude.{◌≡◌, List, ℤ, Ok, Err, Result}
use Rattle.rules.specs.declared.Refusal.{Refusal}
use Rattle.rules.specs.Step.{State}
use Rattle.work.specs.declared.parts.Work.{Work}
use Rattle.work.specs.View.{state}

-- a step that was made leads from s to t, and one that was refused alters nothing
abbrev pub After : Result (Unit {0}) Refusal → State → State → Result State Refusal → Type 0
After (Ok u) s t o = o ≡ Ok t
After (Err f) s t o = (o ≡ Err f) × (t ≡ s)

-- the answer r, and the work state and the book before and after, are what this rule gives
abbrev pub Made : Result (Unit {0}) Refusal → Work → List ℤ → Work → List ℤ → (State → Result State Refusal) → Type 0
Made r w b w' b' rule = After r (state w b) (state w' b') (rule (state w b))
