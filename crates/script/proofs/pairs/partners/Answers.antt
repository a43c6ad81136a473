use Rattle.std.proofs.Common.{◌≡◌, rules}
use Rattle.rules.specs.Script.{partner}
use Rattle.script.proofs.Made.{made_at}
use Rattle.script.proofs.pairs.partners.Goals as goal

pub returns : goal.returns
returns c = made_at _ _ (λ k y. y ≡ partner c.args.lines.now k) _ 0 (λ k y q w. search rules) c.from_fn.ensures.items
