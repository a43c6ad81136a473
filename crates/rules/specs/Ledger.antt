-- What a screen and its ledger go by: the check, the machine of a script, and reading a word.
-- The screen, the ledger and its carried book are defined in `reversible`, for any such rules.
use Rattle.std.specs.Prelude.{List, [], ℤ}
use Rattle.reversible.specs.Ledger.{Rules}
use Rattle.rules.specs.Book.{read_of}
use Rattle.rules.specs.Script.{Script}
use Rattle.rules.specs.Check.{checked}
use Rattle.rules.specs.Step.{State}
use Rattle.rules.specs.Run.{machine}
use Rattle.rules.specs.declared.Refusal.{Refusal}
use Rattle.rules.specs.declared.Refusal.TheVariants.{ListFull, NothingStands, SomethingStands}

abbrev pub no_script : Script
no_script = record { lines = []; terms = [] }

-- at most 64 methods stand
abbrev pub screen_rules : Rules State (List ℤ) ℤ Script Refusal
screen_rules = record {
  machine = machine;
  empty = no_script;
  check = checked;
  read = read_of;
  capacity = 64;
  full = ListFull;
  nothing_stands = NothingStands;
  something_stands = SomethingStands;
}
