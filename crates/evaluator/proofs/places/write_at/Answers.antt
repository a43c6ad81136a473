use Rattle.std.proofs.Common.{take, set, sym, ap, ◌∙◌, rules}
use lib.Seq.{take-set-lt}
use Rattle.std.proofs.lemmas.Int.{to_z-of_z}
use Rattle.rules.specs.Step.{with_locals}
use Rattle.work.specs.View.{state}
use Rattle.laws.proofs.Fronts.{set_past_front}
use Rattle.evaluator.proofs.places.write_at.Goals as goal

pub returns-in-InLocals : goal.returns-in-InLocals
returns-in-InLocals g c =
    let w = c.args.work.now in
    let b = g.S.Store.book c.args.store.now in
    rw c.in-InLocals.is
    (ap (λ z. with_locals (take w.opened (set w.locals c.in-InLocals.i z)) (state w b)) (to_z-of_z _ _ c.ranges.v)
    ∙ ap (λ ls. with_locals ls (state w b)) (take-set-lt w.opened w.locals c.in-InLocals.i c.args.v c.if-i-work.true))

pub returns-else-i-work : goal.returns-else-i-work
returns-else-i-work g c =
    let w = c.args.work.now in
    let b = g.S.Store.book c.args.store.now in
    rw c.in-InLocals.is
    (ap (λ ls. with_locals ls (state w b)) (sym (set_past_front w.locals w.opened _ c.args.v (search rules) c.if-i-work.false)))
