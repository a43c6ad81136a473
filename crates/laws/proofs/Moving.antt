-- A finished state makes no step.
use Rattle.std.proofs.Common.{◌≡◌, Bool, true, false, eqb, [], length, get_or, Ok, Err, sym, refl, ap, ◌∙◌}
use Rattle.std.proofs.lemmas.Bool.{and_parts, eqb-true}
use Rattle.std.proofs.lemmas.List.{nil_from_length}
use Rattle.rules.specs.Script.{Script}
use Rattle.rules.specs.Step.{State, step, finished, kind_met, turn_of, rules, returned}
use Rattle.rules.specs.declared.Refusal.TheVariants.{Unknown}
use Rattle.laws.proofs.Chains.{ok_err}

-- a finished state makes no step
pub finished_stops : (sc : Script) (s t : State) → finished sc s ≡ true → step sc s ≡ Ok t → ⊥
unfolding step
finished_stops sc s t h e =
    let (one, none) = and_parts (eqb (kind_met sc s) 1) (eqb (length s.frames) 0) h in
    let k : kind_met sc s ≡ 1 = eqb-true (kind_met sc s) 1 one in
    let fs : s.frames ≡ [] = nil_from_length s.frames (eqb-true (length s.frames) 0 none) in
    ok_err (sym (ap (λ k. get_or rules k (λ _ _ _. Err Unknown) sc (turn_of s) s) k ∙ ap (returned sc (turn_of s) s) fs) ∙ e)

pub moving : (sc : Script) (s t : State) → step sc s ≡ Ok t → finished sc s ≡ false
moving sc s t e = by (finished sc s) refl
  where
    by : (b : Bool) → finished sc s ≡ b → b ≡ false
    by true h = absurd (finished_stops sc s t h e)
    by false h = refl
