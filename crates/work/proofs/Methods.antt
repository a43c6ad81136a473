-- A checked script has no method past 31.
use Rattle.std.proofs.Common.{◌≡◌, ℕ, ◌<◌, ◌≤◌, true, false, length, refl, ⊎_elim, arith}
use Rattle.std.proofs.lemmas.Bool.{cases_lt, le-ltb, false≢true}
use Rattle.std.proofs.lemmas.Bool.Decides.{nat_tests}
use Rattle.reversible.specs.Ledger.{Verdict, accepted, rejected, is_accepted}
use Rattle.rules.specs.declared.Refusal.{Refusal}
use Rattle.rules.specs.Script.{Script, line_at, where_is, has_method}
use Rattle.rules.specs.Check.{checked, allowed}
use Rattle.laws.proofs.Methods.{where_at}
use Rattle.laws.proofs.Stack.{accepted_line}

pub accepted_from : (sc : Script) → allowed sc ≡ true → checked sc ≡ accepted
accepted_from sc e = by (checked sc) e
  where
    by : (v : Verdict Refusal) → is_accepted v ≡ true → v ≡ accepted
    by accepted e = refl
    by (rejected r k) e = absurd (false≢true e)

pub no_method_lem : (sc : Script) (q : ℕ) → allowed sc ≡ true → 256 ≤ q → has_method sc.lines q ≡ false
no_method_lem sc q ok h = ⊎_elim here (λ n. le-ltb _ _ n) (cases_lt (where_is 0 q sc.lines) (length sc.lines))
  where
    here : where_is 0 q sc.lines < length sc.lines → has_method sc.lines q ≡ false
    here i =
        let l = line_at sc.lines (where_is 0 q sc.lines) in
        let filled = (accepted_line sc (accepted_from sc ok) (where_is 0 q sc.lines) i).filled in
        let low : l.q ≤ 31 = grind (arith, nat_tests, filled) in
        let is = (where_at 0 q sc.lines i).1 in
        absurd (omega arith)
