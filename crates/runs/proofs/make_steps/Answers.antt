use Rattle.std.proofs.Common.{◌≡◌, ◌+◌, ◌-◌, sym, ap, ◌∙◌, arith}
use Rattle.script.specs.Programs.{script_of}
use Rattle.work.specs.View.{state}
use Rattle.runs.specs.Walks.{stepped}
use Rattle.runs.proofs.Walking.{stepped_more, stepped_none}
use Rattle.runs.proofs.make_steps.Goals as goal

pub loop-preserved : goal.loop-preserved
loop-preserved g c =
    let q : c.args.n - (c.loop.counter + 1) ≡ c.args.n - c.loop.counter - 1 = omega arith in
    ap (λ n. stepped (script_of c.args.program.now) n (state c.step.new.work (g.S.Store.book c.step.new.store))) q
    ∙ sym (stepped_more _ (c.args.n - c.loop.counter) _ _ _ (omega arith) c.step.ensures) ∙ c.loop.invariant

pub returns : goal.returns
returns g c = sym (stepped_none _ (c.args.n - c.loop.counter) _ (omega arith)) ∙ c.loop.invariant
