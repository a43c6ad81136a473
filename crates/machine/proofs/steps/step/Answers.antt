use Rattle.std.proofs.Common.{refl, w32, SFits, rules}
use Rattle.std.proofs.lemmas.Int.{to_z-of_z}
use Rattle.std.proofs.lemmas.Result.{err_from_is_err_and}
use Rattle.script.specs.Programs.{script_of}
use Rattle.work.specs.View.{state}
use Rattle.machine.proofs.Chosen.{step_none, own_refused, far_refused, acted}
use Rattle.machine.proofs.steps.step.Goals as goal

pub returns-in_err-due : goal.returns-in_err-due
returns-in_err-due g c =
    let s = state c.args.work.now (g.S.Store.book c.args.store.now) in
    let p = err_from_is_err_and c.from_residual.result c.from_residual.ensures.1 in
    rw (p.1, p.2) (step_none (script_of c.args.program.now) s _ c.in_err-due.ensures, refl)

pub returns-in_default : goal.returns-in_default
returns-in_default g c =
    let s = state c.args.work.now (g.S.Store.book c.args.store.now) in
    let e = own_refused (script_of c.args.program.now) s c.in_ok-due.due c.in_ok-due.ensures c.in_default.field-0 c.in_default.ensures in
    search rules

pub returns-in_default-answer : goal.returns-in_default-answer
returns-in_default-answer g c =
    let s = state c.args.work.now (g.S.Store.book c.args.store.now) in
    let own = c.in-Ok.own in
    let f : SFits w32 own = search rules in
    let t = to_z-of_z w32 own f in
    let e = far_refused (script_of c.args.program.now) s c.in_ok-due.due c.in_ok-due.ensures own c.in-Ok.ensures c.in_default-answer.field-0 (rw t at c.in_default-answer.ensures) in
    search rules

pub returns : goal.returns
returns g c =
    let s = state c.args.work.now (g.S.Store.book c.args.store.now) in
    let own = c.in-Ok.own in
    let far = c.in-Ok-answer.far in
    let f : SFits w32 own = search rules in
    let t = to_z-of_z w32 own f in
    let f' : SFits w32 far = search rules in
    let t' = to_z-of_z w32 far f' in
    let e = acted (script_of c.args.program.now) s c.in_ok-due.due c.in_ok-due.ensures own c.in-Ok.ensures far (rw t at c.in-Ok-answer.ensures) in
    rw e (rw (t, t') at c.act.ensures.made)
