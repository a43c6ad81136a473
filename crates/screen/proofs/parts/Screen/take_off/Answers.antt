use Rattle.std.proofs.Common.{◌≡◌, ◌-◌, ◌<◌, List, map, length, get_or, ℤ, sym, ap, ◌∙◌, arith}
use Rattle.std.proofs.lemmas.Grind.{common_steps}
use Rattle.std.proofs.lemmas.Result.{err_from_is_err_and}
use Rattle.reversible.specs.Ledger.{Answer, Entry, Screen as Model}
use Rattle.rules.specs.Script.{Script}
use Rattle.rules.specs.declared.Refusal.{Refusal}
use Rattle.script.specs.Programs.{script_of}
use Rattle.screen.specs.Model.{entry_of}
use Rattle.screen.proofs.Models.{standing_struck, back_last}
use Rattle.screen.proofs.parts.Screen.take_off.Goals as goal

abbrev Called : Type 0
Called = Answer ℤ Refusal × Model (List ℤ) Script

abbrev first : Called → Answer ℤ Refusal
first p = p.0

abbrev rest : Called → Model (List ℤ) Script
rest p = p.1

pub returns-in_err-steps : goal.returns-in_err-steps
returns-in_err-steps g c =
    let s = c.args.self.now in
    let xs = s.standing.items in
    let x = c.in_ok-last.last in
    let some : 0 < length xs = grind (arith, common_steps) in
    let is : x ≡ get_or xs (length xs - 1) x = grind (arith, common_steps) in
    let e = back_last (g.S.Store.book s.store) (script_of s.program) xs x _ some is c.in_err-steps.ensures.outcome in
    let p = err_from_is_err_and c.from_residual-in_err-steps.result c.from_residual-in_err-steps.ensures.1 in
    record { answer = rw (p.1, p.2) (sym (ap first e)); screen = sym (ap rest e) }

pub returns : goal.returns
returns g c =
    let s = c.args.self.now in
    let xs = s.standing.items in
    let x = c.in_ok-last.last in
    let b = g.S.Store.book c.run.new.store in
    let some : 0 < length xs = grind (arith, common_steps) in
    let is : x ≡ get_or xs (length xs - 1) x = grind (arith, common_steps) in
    let e = back_last (g.S.Store.book s.store) (script_of s.program) xs x _ some is c.in_ok-steps.ensures.outcome in
    let f : List Entry → Model (List ℤ) Script = λ st. record { book = b; script = script_of s.program; standing = st } in
    record { answer = sym (ap first e); screen = ap f (ap (map entry_of) c.pop.ensures.rest ∙ sym (standing_struck xs)) ∙ sym (ap rest e) }
