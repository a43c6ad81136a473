-- Everything that is promised of the rules, as one statement.
use Rattle.std.specs.Prelude.{◌≡◌, ◌-◌, ◌↔◌, List, length, ℤ}
use Rattle.reversible.specs.Machine.{Any, other}
use Rattle.reversible.specs.Laws.{RunLaws, Turns, Carries}
use Rattle.reversible.specs.Ledger.{Screen, Call, Keeps, Follows, Apart, screen_call, accepted}
use Rattle.rules.specs.Script.{Script, turned_script}
use Rattle.rules.specs.Check.{checked}
use Rattle.rules.specs.Allowed.{Allowed}
use Rattle.rules.specs.Run.{machine}
use Rattle.rules.specs.Ledger.{screen_rules}

-- what holds of every accepted script
pub record OfScript (sc : Script) : Type 0 where
  -- a refused run leaves the book it began with; a run finishes with exactly the budgets that suffice; finished runs from one
  -- book agree; backward undoes forward; two finished runs have equal books after exactly when they had equal books before
  pub runs : RunLaws (machine sc)
  -- for all books a, b and every n: the script finishes from a at b in n steps exactly when the turned script does from b at a
  pub turns : Turns (machine sc) (machine (turned_script sc))
  -- the turned script's runs are the runs in the other direction, with refusals and steps, and lines counted from the other end
  pub mirrors : Carries (machine sc) (machine (turned_script sc)) Any other (λ l. length sc.lines - 1 - l) (λ b. b)
  -- turned, it is accepted too, and turned again it is the script
  pub again : checked (turned_script sc) ≡ accepted
  pub twice : turned_script (turned_script sc) ≡ sc

pub record Whole : Type 0 where
  -- the check accepts exactly the scripts that the grammar allows
  pub grammar : (sc : Script) → checked sc ≡ accepted ↔ Allowed sc
  pub scripts : (sc : Script) → checked sc ≡ accepted → OfScript sc
  -- whatever is called on a newly opened screen, with any refusals, it answers as the ledger does, keeps its standing list and
  -- holds its carried book; back is refused exactly when nothing stands, and otherwise takes the steps of the last pair
  pub keeps : Keeps screen_rules
  -- and so does each call after any others
  pub follows : (s : Screen (List ℤ) Script) (c : Call Script) → Follows screen_rules s c (screen_call screen_rules s c).0 (screen_call screen_rules s c).1
  -- one method of one accepted script, finished on two screens: the books are equal after exactly when they were equal before
  pub apart : Apart screen_rules
