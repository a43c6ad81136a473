-- A walk, step by step.
use Rattle.std.proofs.Common.{◌≡◌, ℕ, zero, suc, ◌+◌, ◌-◌, ◌<◌, true, false, Ok, Err, Result, sym, refl, ap, ◌∙◌, arith}
use Rattle.reversible.specs.Machine.{go, stop, How, ended, spent, bad, at_rest, onward, walk}
use Rattle.rules.specs.declared.Refusal.{Refusal}
use Rattle.rules.specs.declared.Refusal.TheVariants.{OutOfBudget}
use Rattle.rules.specs.Answer.{either}
use Rattle.rules.specs.Script.{Script}
use Rattle.rules.specs.Step.{State, step, finished}
use Rattle.rules.specs.Run.{next, machine}
use Rattle.laws.proofs.Lawful.{next_from, next_end}
use Rattle.machine.specs.Steps.{After}
use Rattle.runs.specs.Walks.{stopped_at, said, halt, halted, stepped}

halt_steps : (h : How Refusal) (n m : ℕ) (s : State) → n ≡ m → halt (said h n s) s ≡ halt (said h m s) s
halt_steps h n m s e = ap (λ k. halt (said h k s) s) e

module _ (sc : Script) (s : State) where
  next_else : finished sc s ≡ false → next sc s ≡ either (step sc s) go stop
  next_else e = rw (e, next)

  pub ends : (b n : ℕ) → finished sc s ≡ true → halted n (walk (machine sc) b s) ≡ halt (Ok n) s
  ends zero n e = ap (λ x. halted n (at_rest s x)) (next_end sc s e) ∙ halt_steps ended (n + 0) n s (omega arith)
  ends (suc b) n e = ap (λ x. halted n (onward s (walk (machine sc) b) x)) (next_end sc s e) ∙ halt_steps ended (n + 0) n s (omega arith)

  pub spends : (b n : ℕ) → finished sc s ≡ false → b ≡ 0 → halted n (walk (machine sc) b s) ≡ halt (Err (stopped_at OutOfBudget n s)) s
  spends zero n e z = ap (λ x. halted n (at_rest s x)) (next_else e) ∙ by (step sc s) ∙ halt_steps spent (n + 0) n s (omega arith)
    where
      by : (r : Result State Refusal) → halted n (at_rest s (either r go stop)) ≡ halt (Err (stopped_at OutOfBudget (n + 0) s)) s
      by (Ok t) = refl
      by (Err f) = refl
  spends (suc b) n e z = absurd (omega arith)

  pub stops : (b n : ℕ) (f : Refusal) → finished sc s ≡ false → 0 < b → step sc s ≡ Err f → halted n (walk (machine sc) b s) ≡ halt (Err (stopped_at f n s)) s
  stops zero n f e h p = absurd (omega arith)
  stops (suc b) n f e h p =
      ap (λ x. halted n (onward s (walk (machine sc) b) x)) (next_else e ∙ ap (λ r. either r go stop) p) ∙ halt_steps (bad f) (n + 0) n s (omega arith)

  pub goes_on : (b n : ℕ) (t : State) → 0 < b → step sc s ≡ Ok t → halted n (walk (machine sc) b s) ≡ halted (n + 1) (walk (machine sc) (b - 1) t)
  goes_on zero n t h p = absurd (omega arith)
  goes_on (suc b) n t h p =
      let w = walk (machine sc) b t in
      let c : suc b - 1 ≡ b = omega arith in
      let k : n + suc w.steps ≡ n + 1 + w.steps = omega arith in
      ap (λ x. halted n (onward s (walk (machine sc) b) x)) (next_from sc s t p)
      ∙ halt_steps w.how _ _ w.state k
      ∙ ap (λ m. halted (n + 1) (walk (machine sc) m t)) (sym c)

-- ---- steps of which the refused alter nothing

pub stepped_more : (sc : Script) (n : ℕ) (r : Result (Unit {0}) Refusal) (s t : State) → 0 < n → After r s t (step sc s) → stepped sc n s ≡ stepped sc (n - 1) t
unfolding stepped
stepped_more sc zero r s t h a = absurd (omega arith)
stepped_more sc (suc n) (Ok u) s t h a = let q : suc n - 1 ≡ n = omega arith in rw (a, q)
stepped_more sc (suc n) (Err f) s t h a = let q : suc n - 1 ≡ n = omega arith in rw (a.0, a.1, q)

pub stepped_none : (sc : Script) (n : ℕ) (s : State) → n ≡ 0 → stepped sc n s ≡ s
unfolding stepped
stepped_none sc zero s h = refl
stepped_none sc (suc n) s h = absurd (omega arith)
