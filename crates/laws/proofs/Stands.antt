-- The whole statement.
use Rattle.std.proofs.Common.{◌≡◌, ℕ, refl, ap}
use Rattle.reversible.specs.Machine.{Dir}
use Rattle.reversible.specs.Ledger.{LawfulRules, accepted}
use Rattle.reversible.proofs.Runs.{run_laws}
use Rattle.reversible.proofs.Ledgers.{keeps, follows, apart}
use Rattle.rules.specs.Script.{Script}
use Rattle.rules.specs.Check.{checked}
use Rattle.rules.specs.Step.{State}
use Rattle.rules.specs.Run.{ahead, machine}
use Rattle.rules.specs.Ledger.{screen_rules}
use Rattle.laws.specs.Whole.{Whole}
use Rattle.laws.proofs.Fit.{Fit}
use Rattle.laws.proofs.Lawful.{lawful}
use Rattle.laws.proofs.Grammar.{allowed_from, accepted_from}
use Rattle.laws.proofs.Turnable.{turned_accepted}
use Rattle.laws.proofs.MirrorMachine.{turned_again, turns, mirrors}

abbrev Good : Script → Type 0
Good sc = checked sc ≡ accepted

abbrev Inv : Script → ℕ → Dir → State → Type 0
Inv sc q d s = Fit sc q (ahead d) s

pub screen_lawful : LawfulRules screen_rules Good Inv
screen_lawful = record { good_empty = refl; good_script = λ sc e. e; lawful = λ sc ok. lawful sc ok }

pub whole : Whole
whole = record {
  grammar = λ sc. (allowed_from sc, accepted_from sc);
  scripts = λ sc ok. record {
    runs = run_laws (machine sc) (Inv sc) (lawful sc ok);
    turns = turns sc ok;
    mirrors = mirrors sc ok (turned_accepted sc ok);
    again = turned_accepted sc ok;
    twice = ap (λ ls. record { lines = ls; terms = sc.terms }) (turned_again sc.lines);
  };
  keeps = keeps screen_rules Good Inv screen_lawful;
  follows = follows screen_rules Good Inv screen_lawful;
  apart = apart screen_rules Good Inv screen_lawful;
}
