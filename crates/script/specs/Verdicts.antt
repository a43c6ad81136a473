-- What the check's answers say.
use Rattle.std.specs.Prelude.{◌≡◌, ℕ, Bool, false, not, ◌&&◌, List, [], Ok, Err, Result, slice_index_or}
use Rattle.reversible.specs.Ledger.{Verdict, accepted, rejected}
use Rattle.rules.specs.Answer.{number}
use Rattle.rules.specs.Kinds.{code}
use Rattle.rules.specs.Script.{Script, has_method, turned}
use Rattle.rules.specs.Check.{within, walked, calls, checked}
use Rattle.rules.specs.declared.Kind.TheVariants.{Call, Uncall}
use Rattle.rules.specs.declared.Line.{Line}
use Rattle.rules.specs.declared.Term.{Term}
use Rattle.rules.specs.declared.Refusal.{Refusal}
use Rattle.script.specs.declared.checking.Fault.{Fault}

abbrev pub script_from : List Line → List Term → Script
script_from ls ts = record { lines = ls; terms = ts }

-- the verdict that an answer gives
abbrev pub verdict : Result (Unit {0}) Fault → Verdict Refusal
verdict (Ok u) = accepted
verdict (Err f) = rejected f.refusal f.line

abbrev pub numbers_of : Verdict Refusal → ℕ × ℕ
numbers_of accepted = (0, 0)
numbers_of (rejected r k) = (number r, k)

-- which methods the lines begin
abbrev pub Knows : List Bool → List Line → Type 0
Knows begun ls = (q : ℕ) → slice_index_or begun q false ≡ has_method ls q

abbrev pub missing : Line → List Bool → Bool
missing l begun = within (code Call) (code Uncall) l.kind && not (slice_index_or begun l.q false)

-- the walk over the lines, up to the calls
abbrev pub LinesChecked : Result (List Bool) Fault → Script → Type 0
LinesChecked (Ok begun) sc = (walked sc 0 [] sc.lines ≡ calls sc.lines 0 sc.lines) × Knows begun sc.lines
LinesChecked (Err f) sc = walked sc 0 [] sc.lines ≡ rejected f.refusal f.line

abbrev pub CallsChecked : Result (Unit {0}) Fault → List Line → Type 0
CallsChecked r ls = calls ls 0 ls ≡ verdict r

-- the table after a turn that gave this answer
abbrev pub turned_if : Result (Unit {0}) Fault → List Line → List Line
turned_if (Ok u) ls = turned ls
turned_if (Err f) ls = ls

-- a turned table is accepted too, and turned again it is what it was
abbrev pub TurnsBack : Result (Unit {0}) Fault → List Line → List Line → List Term → Type 0
TurnsBack (Ok u) before after ts = (checked (script_from after ts) ≡ accepted) × (turned after ≡ before)
TurnsBack (Err f) before after ts = Unit {0}
