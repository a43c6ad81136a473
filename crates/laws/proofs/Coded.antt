-- The numbers of kinds, and how they are met backward.
use Rattle.std.proofs.Common.{◌≡◌, ℕ, ◌<◌, ◌≤◌, Bool, true, false, eqb, ltb, leb, Ok, sym, refl, ap, ◌∙◌, ⊎_elim, arith}
use Rattle.std.proofs.lemmas.Bool.{cases_lt, cond-false, le-ltb, ne_eqb}
use Rattle.rules.specs.Kinds.{code, Decodes}
use Rattle.rules.specs.declared.Kind.{Kind}
use Rattle.rules.specs.declared.Kind.TheVariants.{Begin, End, Add, Subtract, If, Fi, From, Until, Local, Delocal, New, Delete, Copy, Uncopy, Xor, Swap, Call, Uncall}
use Rattle.rules.specs.Step.{met}
use Rattle.laws.proofs.Turning.{each_at}

-- no kind has a number past 17
pub code_low : (k : Kind) → leb (code k) 17 ≡ true
code_low Begin = refl
code_low End = refl
code_low Add = refl
code_low Subtract = refl
code_low If = refl
code_low Fi = refl
code_low From = refl
code_low Until = refl
code_low Local = refl
code_low Delocal = refl
code_low New = refl
code_low Delete = refl
code_low Copy = refl
code_low Uncopy = refl
code_low Xor = refl
code_low Swap = refl
code_low Call = refl
code_low Uncall = refl

-- and every number up to 17 decodes to a kind, which has that number
pub low : (n : ℕ) → n < 18 → (k : Kind) × Decodes n (Ok k)
low n h = each_at (λ m. (k : Kind) × Decodes m (Ok k)) 0 18 n ((Begin, refl), ((End, refl), ((Add, refl), ((Subtract, refl), ((If, refl), ((Fi, refl), ((From, refl), ((Until, refl), ((Local, refl), ((Delocal, refl), ((New, refl), ((Delete, refl), ((Copy, refl), ((Uncopy, refl), ((Xor, refl), ((Swap, refl), ((Call, refl), ((Uncall, refl), tt)))))))))))))))))) (omega arith) (omega arith)

pub met_high : (d : Bool) (k : ℕ) → 18 ≤ k → met d k ≡ k
met_high true k h = refl
met_high false k h = cond-false (ltb k 14) _ _ (le-ltb k 14 (omega arith))

-- met backward, an end is a begin
abbrev Begins : ℕ → Type 0
Begins k = eqb k 0 ≡ eqb (met false k) 1

pub ends_backward : (k : ℕ) → Begins k
ends_backward k = ⊎_elim below above (cases_lt k 14)
  where
    below : k < 14 → Begins k
    below h = each_at Begins 0 14 k (refl, (refl, (refl, (refl, (refl, (refl, (refl, (refl, (refl, (refl, (refl, (refl, (refl, (refl, tt)))))))))))))) (omega arith) (omega arith)

    above : 14 ≤ k → Begins k
    above h = ne_eqb k 0 (λ e. omega arith) ∙ sym (ap (λ m. eqb m 1) (cond-false (ltb k 14) _ _ (le-ltb k 14 h)) ∙ ne_eqb k 1 (λ e. omega arith))
