use Rattle.std.proofs.Common.{rules}
use Rattle.laws.proofs.Coded.{ends_backward}
use Rattle.work.proofs.turns.ends.Goals as goal

pub returns : goal.returns
returns c = let e = ends_backward c.args.line.kind in search rules
