use Rattle.std.proofs.Common.{◌≡◌, ℕ, ◌+◌, ◌<◌, length, slice_index_or, drop}
use Rattle.rules.specs.Script.{where_is}
use Rattle.script.specs.Methods.{no_method}
use Rattle.script.proofs.pairs.methods.Given as goal

abbrev pub invariant-loop-k : goal.invariant-loop-k
invariant-loop-k l = (length l.table ≡ 256)
    × ((q : ℕ) → q < 256 → (slice_index_or l.table q no_method).begin ≡ l.k + where_is 0 q (drop l.k l.lines))
    × ((q : ℕ) → q < 256 → (slice_index_or l.table q no_method).end ≡ l.k + where_is 1 q (drop l.k l.lines))
