use Rattle.std.proofs.Common.{◌≡◌, ℕ, ◌+◌, Bool, ◌&&◌, eqb, get_or, drop, sym, ap, ◌∙◌, subst, arith}
use Rattle.rules.specs.Script.{to_closer}
use Rattle.script.proofs.Stacks.{blank}
use Rattle.script.proofs.Partners.{down_found, down_goes, down_ends, deeper_low}
use Rattle.script.proofs.pairs.to_closer.Goals as goal

pub returns-then-closes-deep : goal.returns-then-closes-deep
returns-then-closes-deep c =
    let f : Bool → Bool = λ b. b && eqb c.loop-n.deep 0 in
    record {
      value = down_found c.args.lines.now c.loop-n.n c.loop-n.deep _ c.loop-n.invariant.1 c.loop-n-test.true (ap f (sym c.closes.ensures) ∙ c.if-closes-deep.true);
      low = omega arith;
    }

pub loop-n-preserved : goal.loop-n-preserved
loop-n-preserved c =
    let f : Bool → Bool = λ b. b && eqb c.loop-n.deep 0 in
    let P : ℕ → Type 0 = λ d. c.loop-n.n + 1 + to_closer (drop (c.loop-n.n + 1) c.args.lines.now) d ≡ to_closer c.args.lines.now 0 in (
      omega (arith, c.deeper-deep.ensures, deeper_low (get_or c.args.lines.now c.loop-n.n blank).kind c.loop-n.deep, c.loop-n.invariant.0),
      subst P (sym c.deeper-deep.ensures)
          (down_goes c.args.lines.now c.loop-n.n c.loop-n.deep _ c.loop-n.invariant.1 c.loop-n-test.true (ap f (sym c.closes.ensures) ∙ c.if-closes-deep.false)),
    )

pub returns : goal.returns
returns c =
    let e = down_ends c.args.lines.now c.loop-n.n c.loop-n.deep _ c.loop-n.invariant.1 c.loop-n-test.false in
    record { value = omega (arith, e); low = omega arith }
