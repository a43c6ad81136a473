use Rattle.std.proofs.Common.{rules}
use Rattle.rules.specs.Answer.{◌>>=◌}
use Rattle.rules.specs.Expression.{operated}
use Rattle.evaluator.proofs.expressions.take_operator.Goals as goal

pub returns-in_err-v : goal.returns-in_err-v
unfolding operated ◌>>=◌
returns-in_err-v c = search rules

pub returns : goal.returns
unfolding operated ◌>>=◌
returns c = search rules
