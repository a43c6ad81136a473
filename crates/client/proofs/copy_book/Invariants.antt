use Rattle.std.proofs.Common.{◌≡◌}
use Rattle.std.proofs.Math.Seq.{paste}
use Rattle.client.proofs.copy_book.Given as goal

abbrev pub invariant-loop-w : goal.invariant-loop-w
invariant-loop-w g l = g.T.Store.book l.to ≡ paste (g.T.Store.book l.initial.to) 0 (g.S.Store.book l.from) l.w
