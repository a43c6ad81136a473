use Rattle.std.proofs.Common.{◌≡◌, sym, ap, ◌∙◌, rules}
use Rattle.rules.specs.Answer.{◌>>=◌}
use Rattle.rules.specs.Terms.{term_code}
use Rattle.rules.specs.Expression.{taken}
use Rattle.evaluator.proofs.Terms.{no_term}
use Rattle.evaluator.proofs.expressions.take_term.Goals as goal

pub returns-in_err-try_from : goal.returns-in_err-try_from
returns-in_err-try_from g c = search (rules, no_term)

pub returns-in_err-v-in-Nil : goal.returns-in_err-v-in-Nil
unfolding taken ◌>>=◌
returns-in_err-v-in-Nil g c = let e : c.args.t.kind ≡ 2 = sym c.in_ok-try_from.ensures ∙ ap term_code c.in-Nil.is in rw e (search rules)

pub returns-in_ok-v-in-Nil : goal.returns-in_ok-v-in-Nil
unfolding taken ◌>>=◌
returns-in_ok-v-in-Nil g c = let e : c.args.t.kind ≡ 2 = sym c.in_ok-try_from.ensures ∙ ap term_code c.in-Nil.is in rw e (search rules)
