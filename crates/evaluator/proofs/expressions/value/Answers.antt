use Rattle.std.proofs.Common.{[], ap, ◌∙◌}
use Rattle.std.proofs.lemmas.Result.{err_from_is_err_and}
use Rattle.rules.specs.Script.{line_at, terms_of}
use Rattle.rules.specs.Expression.{worked}
use Rattle.rules.specs.Step.{see}
use Rattle.script.specs.Programs.{script_of}
use Rattle.work.specs.View.{state}
use Rattle.evaluator.proofs.Terms.{goes_on, stops, ends}
use Rattle.evaluator.proofs.expressions.value.Goals as goal

pub returns-in_err-take_term : goal.returns-in_err-take_term
returns-in_err-take_term g c =
    let s = state c.args.work.now (g.S.Store.book c.args.store.now) in
    let p = err_from_is_err_and c.from_residual.result c.from_residual.ensures.1 in
    rw (p.1, p.2) (stops (see s) _ _ _ _ c.loop-t.invariant _ _ c.loop-t-test.true c.in_err-take_term.ensures
    ∙ ap (λ ts. worked (see s) ts []) (c.expression-t-items.ensures ∙ ap (terms_of (script_of c.args.program.now).terms) (c.line_at-line.ensures ∙ ap (line_at (script_of c.args.program.now).lines) c.from.ensures)))

pub loop-t-preserved : goal.loop-t-preserved
loop-t-preserved g c = goes_on _ _ _ _ _ c.loop-t.invariant _ _ c.loop-t-test.true c.in_ok-take_term.ensures

pub returns : goal.returns
returns g c =
    let s = state c.args.work.now (g.S.Store.book c.args.store.now) in
    c.only.ensures ∙ ends (see s) _ _ _ _ c.loop-t.invariant c.loop-t-test.false
    ∙ ap (λ ts. worked (see s) ts []) (c.expression-t-items.ensures ∙ ap (terms_of (script_of c.args.program.now).terms) (c.line_at-line.ensures ∙ ap (line_at (script_of c.args.program.now).lines) c.from.ensures))
