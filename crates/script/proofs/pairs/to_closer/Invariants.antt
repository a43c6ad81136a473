use Rattle.std.proofs.Common.{◌≡◌, ◌+◌, ◌≤◌, drop}
use Rattle.rules.specs.Script.{to_closer}
use Rattle.script.proofs.pairs.to_closer.Given as goal

abbrev pub invariant-loop-n : goal.invariant-loop-n
invariant-loop-n l = (l.deep ≤ l.n) × (l.n + to_closer (drop l.n l.lines) l.deep ≡ to_closer l.lines 0)
