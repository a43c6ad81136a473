-- What a run answers, in the words of the rules.
use Rattle.std.specs.Prelude.{◌≡◌, ℕ, Bool, true, false, ◌↔◌, List, ℤ, Ok, Err, Result}
use Rattle.reversible.specs.Machine.{Dir, fwd, bwd, Outcome, done, refused}
use Rattle.rules.specs.declared.Refusal.{Refusal}
use Rattle.runs.specs.declared.Stopped.{Stopped}

abbrev pub facing : Bool → Dir
facing true = fwd
facing false = bwd

-- the outcome that a run's answer and the book after it tell
abbrev pub told : Result ℕ Stopped → List ℤ → Outcome (List ℤ) Refusal
told (Ok n) b = done n b
told (Err s) b = refused s.refusal s.line s.steps b

-- a refused run leaves the book as it was
abbrev pub Restored : Result ℕ Stopped → List ℤ → List ℤ → Type 0
Restored (Ok n) before after = Unit {0}
Restored (Err s) before after = after ≡ before

-- the two-store law: where both runs finish, the books are equal after exactly when they were equal before
abbrev pub Apart : Result ℕ Stopped → Result ℕ Stopped → List ℤ → List ℤ → List ℤ → List ℤ → Type 0
Apart (Ok n) (Ok m) a b a' b' = a ≡ b ↔ a' ≡ b'
Apart (Ok n) (Err s) a b a' b' = Unit {0}
Apart (Err r) (Ok m) a b a' b' = Unit {0}
Apart (Err r) (Err s) a b a' b' = Unit {0}
