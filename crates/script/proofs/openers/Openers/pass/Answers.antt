use Rattle.std.proofs.Common.{reverse, arith}
use Rattle.std.proofs.lemmas.List.{length-reverse}
use Rattle.script.proofs.Stacks.{depth_low}
use Rattle.script.proofs.openers.Openers.pass.Goals as goal

pub overflow_add-self : goal.overflow_add-self
overflow_add-self c =
    let items = c.self.inside.lines.items in
    grind (arith, c.self.inside.counted, depth_low (reverse items), length-reverse items, c.requires)
