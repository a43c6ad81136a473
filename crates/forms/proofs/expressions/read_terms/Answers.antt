use Rattle.forms.proofs.Expression.{read_all}
use Rattle.forms.proofs.expressions.read_terms.Goals as goal

pub loop-t-init : goal.loop-t-init
loop-t-init c = read_all c.args.x c.args.depth c.args.terms.now
