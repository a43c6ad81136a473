-- The script that a checked program holds.
use Rattle.std.specs.Prelude.{◌≡◌, Ok, Err, Result}
use Rattle.reversible.specs.Ledger.{accepted, rejected}
use Rattle.rules.specs.Script.{Script}
use Rattle.rules.specs.Check.{checked}
use Rattle.script.specs.declared.checking.Fault.{Fault}
use Rattle.script.specs.declared.program.Program.{Program}

abbrev pub script_of : Program → Script
script_of p = record { lines = p.lines.items; terms = p.terms.items }

-- a program that was built from a script holds it, and the check accepts it; otherwise this is the check's fault
abbrev pub Built : Result Program Fault → Script → Type 0
Built (Ok p) sc = (checked sc ≡ accepted) × (script_of p ≡ sc)
Built (Err f) sc = checked sc ≡ rejected f.refusal f.line
