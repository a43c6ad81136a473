use Rattle.std.proofs.Common.{ℕ, List, ℤ, sym, ap, ◌∙◌}
use Rattle.reversible.specs.Ledger.{Answer, Screen as Model, screen_call}
use Rattle.rules.specs.Script.{Script}
use Rattle.rules.specs.Ledger.{screen_rules}
use Rattle.rules.specs.declared.Refusal.{Refusal}
use Rattle.screen.specs.Model.{model, standing_of}
use Rattle.screen.specs.Sessions.{call_of, reply_of}
use Rattle.screen.specs.declared.words.Call.{Call}
use Rattle.screen.specs.declared.words.Reply.{Reply}
use Rattle.screen.specs.declared.words.Reply.TheVariants.{Numbers}
use Rattle.screen.proofs.Plays.{back_reply}
use Rattle.screen.proofs.sessions.make_call.Goals as goal

pub returns-in-Back : goal.returns-in-Back
returns-in-Back g c =
    let m = model g.S.Store.book c.args.screen.now in
    let f : ℕ × ℕ × ℕ → Reply = λ r. Numbers r.0 r.1 r.2 in
    let h : Call → Answer ℤ Refusal × Model (List ℤ) Script = λ x. screen_call screen_rules m (call_of x) in
    let first : Answer ℤ Refusal × Model (List ℤ) Script → Reply = λ p. reply_of p.0 in
    let rest : Answer ℤ Refusal × Model (List ℤ) Script → Model (List ℤ) Script = λ p. p.1 in
    let same = ap h (sym c.in-Back.is) in
    record {
      answer = c.numbers-in-Back.ensures ∙ ap f c.back.ensures.answer ∙ back_reply m (standing_of c.args.screen.now) ∙ ap first same;
      screen = c.back.ensures.screen ∙ ap rest same;
    }
