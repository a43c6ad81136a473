use Rattle.std.proofs.Common.{◌≡◌, ◌≤◌, [], length, drop}
use Rattle.rules.specs.Check.{walked}
use Rattle.script.specs.Verdicts.{script_from}
use Rattle.script.proofs.Walks.{Begun}
use Rattle.script.proofs.checking.check_lines.Given as goal

abbrev pub invariant-loop-k : goal.invariant-loop-k
invariant-loop-k l =
    (walked (script_from l.lines l.terms) l.k l.openers (drop l.k l.lines) ≡ walked (script_from l.lines l.terms) 0 [] l.lines)
    × (length l.openers ≤ l.k) × (length l.begun ≡ 256) × Begun l.begun l.lines l.k
