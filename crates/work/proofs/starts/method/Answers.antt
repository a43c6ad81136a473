use Rattle.std.proofs.Common.{rules}
use Rattle.script.specs.Programs.{script_of}
use Rattle.work.proofs.Methods.{no_method_lem}
use Rattle.work.proofs.starts.method.Goals as goal

pub returns-in_err-m : goal.returns-in_err-m
returns-in_err-m c = rw c.from_residual.ensures (no_method_lem (script_of c.args.program.now) c.args.q (search rules) (search rules))
