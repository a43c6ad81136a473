-- A walk as the code takes it, and the steps back.
use Rattle.std.specs.Prelude.{ℕ, zero, suc, ◌+◌, Ok, Err, Result}
use Rattle.reversible.specs.Machine.{How, ended, spent, bad, Walk}
use Rattle.rules.specs.declared.Refusal.{Refusal}
use Rattle.rules.specs.declared.Refusal.TheVariants.{OutOfBudget}
use Rattle.rules.specs.Answer.{either}
use Rattle.rules.specs.Script.{Script}
use Rattle.rules.specs.Step.{State, step, turn_of}
use Rattle.runs.specs.declared.Stopped.{Stopped}

-- refused in state s, after n steps
abbrev pub stopped_at : Refusal → ℕ → State → Stopped
stopped_at r n s = record { refusal = r; line = turn_of s; steps = n }

-- what a walk answers that came to rest in state s, after n steps
abbrev pub said : How Refusal → ℕ → State → Result ℕ Stopped
said ended n s = Ok n
said spent n s = Err (stopped_at OutOfBudget n s)
said (bad r) n s = Err (stopped_at r n s)

-- where it came to rest, with its answer
pub record Halt : Type 0 where
  pub answer : Result ℕ Stopped
  pub state : State

abbrev pub halt : Result ℕ Stopped → State → Halt
halt r s = record { answer = r; state = s }

-- a walk that begins after n steps
abbrev pub halted : ℕ → Walk State Refusal → Halt
halted n w = halt (said w.how (n + w.steps) w.state) w.state

-- n steps, of which the refused alter nothing
unfoldable pub stepped : Script → ℕ → State → State
stepped sc zero s = s
stepped sc (suc n) s = stepped sc n (either (step sc s) (λ t. t) (λ _. s))
