use Rattle.std.proofs.Common.{◌≡◌, ◌+ℤ◌, Ok, sym, ap, ◌∙◌, w32, rules}
use Rattle.std.proofs.lemmas.Int.{to_z-of_z}
use Rattle.rules.specs.Word.{word}
use Rattle.store.specs.Layout.{move_of}
use Rattle.store.specs.Held.{Word}
use Rattle.store.proofs.Layers.{shown}
use Rattle.store.proofs.moves.MovesStore.read.Goals as goal

pub returns : goal.returns
returns g c =
    let ms = c.args.self.now.moves in
    let f : Word c.in_ok-x.x = search rules in
    let m : Word c.move_of.result = search rules in
    let r : Word c.sum.result = search rules in
    let e : c.sum.result ≡ word (c.in_ok-x.x +ℤ move_of ms c.args.w) = cc (c.sum.ensures, to_z-of_z w32 _ f, to_z-of_z w32 _ m, c.move_of.ensures) in
    ap Ok (to_z-of_z w32 _ r ∙ e) ∙ sym (shown ms _ _ _ f c.in_ok-x.ensures)
