use Rattle.std.proofs.Common.{get_or, pos, ◌-ℤ◌, Ok, Err, ap, ◌∙◌, w32, rules}
use Rattle.std.proofs.lemmas.Result.{err_from_is_err_and}
use Rattle.std.proofs.lemmas.Int.{to_z-of_z}
use Rattle.store.specs.Held.{Word}
use Rattle.rules.specs.Word.{word}
use Rattle.prices.proofs.Marked.{at_mark, marked_refused, marked_inside, marked_moved}
use Rattle.prices.proofs.move_to.Goals as goal

pub returns-in_err-write-clause-answer : goal.returns-in_err-write-clause-answer
returns-in_err-write-clause-answer g c =
    let p = err_from_is_err_and c.from_residual.result c.from_residual.ensures.1 in
    p.1 ∙ ap Err p.2 ∙ marked_refused _ (g.S.Store.book c.args.layer.now.below) _ _ _ _ c.mark-w.ensures c.in_err-write.ensures.answer

pub returns-clause-answer : goal.returns-clause-answer
returns-clause-answer g c =
    let b = g.S.Store.book c.args.layer.now.below in
    let w = c.mark-w.result in
    let m : Word c.move_of.result = search rules in
    let h = marked_inside c.args.layer.now.moves b w c.in_ok-write.ensures.answer in
    let by = c.write.ensures.by (at_mark w c.args.instrument c.mark-w.ensures) h ∙ ap (λ t. word (t -ℤ get_or b w (pos 0))) (to_z-of_z w32 _ c.ranges.ticks) in
    ap Ok (to_z-of_z w32 _ m ∙ c.move_of.ensures ∙ by) ∙ marked_moved b w c.args.instrument c.args.ticks c.mark-w.ensures h
