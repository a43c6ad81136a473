use Rattle.std.proofs.Common.{◌≡◌, ℕ, List, ℤ, Ok, Err, Result, sym}
use Rattle.reversible.specs.Machine.{Dir, run}
use Rattle.reversible.specs.Ledger.{accepted}
use Rattle.reversible.proofs.Runs.{separates}
use Rattle.rules.specs.Check.{checked}
use Rattle.rules.specs.Script.{Script}
use Rattle.rules.specs.Run.{machine}
use Rattle.laws.proofs.Lawful.{Inv, lawful}
use Rattle.script.specs.Programs.{script_of}
use Rattle.work.proofs.Methods.{accepted_from}
use Rattle.runs.specs.declared.Stopped.{Stopped}
use Rattle.runs.specs.Endings.{facing, told, Apart}
use Rattle.runs.proofs.run_both.Goals as goal

stay_apart : (sc : Script) → checked sc ≡ accepted → (q : ℕ) (d : Dir) (x y : ℕ) (r s : Result ℕ Stopped) (a b a' b' : List ℤ)
    → told r a' ≡ run (machine sc) q d a x → told s b' ≡ run (machine sc) q d b y → Apart r s a b a' b'
stay_apart sc ok q d x y (Ok n) (Ok m) a b a' b' e f = separates (machine sc) (Inv sc ok) (lawful sc ok) q d a b a' b' x y n m (sym e) (sym f)
stay_apart sc ok q d x y (Ok n) (Err s) a b a' b' e f = tt
stay_apart sc ok q d x y (Err r) (Ok m) a b a' b' e f = tt
stay_apart sc ok q d x y (Err r) (Err s) a b a' b' e f = tt

pub returns : goal.returns
returns g c =
    let p = c.args.program.now in
    let first = c.run.ensures.outcome in
    let second = c.run-2.ensures.outcome in
    record {
      first = first;
      second = second;
      apart = stay_apart (script_of p) (accepted_from (script_of p) p.right) c.args.q (facing c.args.forward) c.args.x c.args.y c.run.result c.run-2.result _ _ _ _ first second;
    }
