-- Sessions of calls, and what is promised of them.
use Rattle.std.specs.Prelude.{◌≡◌, List, [], ◌∷◌, map, ℤ, pos, Ok, Err}
use Rattle.reversible.specs.Ledger.{Call as Asked, load, apply, back, look, Answer, success, refusal, seen, Screen as Model, plays, ledger_call, open_ledger, ledger_after, screen_after, carried}
use Rattle.rules.specs.Answer.{number}
use Rattle.rules.specs.Script.{Script}
use Rattle.rules.specs.Ledger.{screen_rules}
use Rattle.rules.specs.declared.Refusal.{Refusal}
use Rattle.script.specs.Verdicts.{script_from}
use Rattle.laws.specs.Whole.{Whole}
use Rattle.screen.specs.declared.words.Call.{Call}
use Rattle.screen.specs.declared.words.Call.TheVariants.{Load, Apply, Back, Look}
use Rattle.screen.specs.declared.words.Reply.{Reply}
use Rattle.screen.specs.declared.words.Reply.TheVariants.{Numbers, Word}

-- the call of the rules
abbrev pub call_of : Call → Asked Script
call_of (Load ls ts) = load (script_from ls.now ts.now)
call_of (Apply q n) = apply q n
call_of Back = back
call_of (Look w) = look w

-- the rules' answer in numbers
abbrev pub reply_of : Answer ℤ Refusal → Reply
reply_of (success n) = Numbers 0 0 n
reply_of (refusal r l n) = Numbers (number r) l n
reply_of (seen (Ok w)) = Word 0 w
reply_of (seen (Err r)) = Word (number r) (pos 0)

-- a slice with these replies written to its front, as many as it holds
abbrev pub written : List Reply → List Reply → List Reply
written [] rs = []
written (o ∷ os) [] = o ∷ os
written (o ∷ os) (r ∷ rs) = r ∷ written os rs

-- The calls cs on a newly opened screen over the book a: the replies are the ledger's, and the screen keeps the ledger's
-- script and standing list and holds its carried book.
pub record Played (a : List ℤ) (cs : List (Asked Script)) (before after : List Reply) (s : Model (List ℤ) Script) : Type 0 where
  pub replies : after ≡ written before (map reply_of (plays (ledger_call screen_rules) (open_ledger screen_rules a) cs).0)
  pub script : s.script ≡ (ledger_after screen_rules a cs).script
  pub standing : s.standing ≡ (ledger_after screen_rules a cs).standing
  pub book : s.book ≡ carried screen_rules (ledger_after screen_rules a cs)
  pub screen : s ≡ screen_after screen_rules a cs

-- The same calls on two stores that held a and b and now hold a' and b'. `whole` says, of every such session and of all books:
-- back is refused exactly when nothing stands and otherwise takes the steps of the last pair; a method finished on both leaves
-- equal books exactly where they were equal before; the turned script runs the way back in as many steps.
pub record Rehearsed (a b : List ℤ) (cs : List (Asked Script)) (before₁ after₁ before₂ after₂ : List Reply) (a' b' : List ℤ) : Type 0 where
  pub first : after₁ ≡ written before₁ (map reply_of (plays (ledger_call screen_rules) (open_ledger screen_rules a) cs).0)
  pub second : after₂ ≡ written before₂ (map reply_of (plays (ledger_call screen_rules) (open_ledger screen_rules b) cs).0)
  pub left : a' ≡ carried screen_rules (ledger_after screen_rules a cs)
  pub right : b' ≡ carried screen_rules (ledger_after screen_rules b cs)
  pub whole : Whole
