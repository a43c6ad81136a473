use Rattle.std.proofs.Common.{◌<◌, length, List, ℤ, sym, ap, arith}
use Rattle.reversible.specs.Ledger.{Answer, Screen as Model}
use Rattle.rules.specs.Script.{Script}
use Rattle.rules.specs.declared.Refusal.{Refusal}
use Rattle.screen.specs.Model.{model, standing_of}
use Rattle.screen.proofs.Models.{standing_length, apply_room}
use Rattle.screen.proofs.parts.Screen.put_on.Goals as goal

pub returns-in_err-steps-clause-screen : goal.returns-in_err-steps-clause-screen
returns-in_err-steps-clause-screen g c =
    let s = c.args.self.now in
    let room : length (standing_of s) < 64 = grind (arith, standing_length) in
    let rest : Answer ℤ Refusal × Model (List ℤ) Script → Model (List ℤ) Script = λ p. p.1 in
    sym (ap rest (apply_room (model g.S.Store.book s) c.args.q c.args.budget _ room c.in_err-steps.ensures.outcome))
