use Rattle.std.proofs.Common.{get_or, pos, sym, ◌∙◌, w32, SFits, arith, rules}
use Rattle.std.proofs.lemmas.Int.{to_z-of_z}
use Rattle.std.proofs.lemmas.List.{get_or-take}
use Rattle.laws.proofs.Fronts.{past_front}
use Rattle.evaluator.proofs.places.read_at.Goals as goal

pub returns-in-InLocals : goal.returns-in-InLocals
returns-in-InLocals g c =
    let w = c.args.work.now in
    let f : SFits w32 (get_or w.locals c.in-InLocals.i (pos 0)) = search rules in
    rw c.in-InLocals.is (to_z-of_z _ _ f ∙ sym (get_or-take w.opened w.locals c.in-InLocals.i (pos 0) (search rules)))

pub returns-in-InLocals-2 : goal.returns-in-InLocals-2
returns-in-InLocals-2 g c =
    let w = c.args.work.now in
    rw c.in-InLocals-2.is (sym (past_front w.locals w.opened _ (pos 0) (omega arith) (search rules)))
