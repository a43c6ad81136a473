use Rattle.std.proofs.Common.{refl, ◌∙◌, arith, rules}
use borrow.Author.Tests.{tests}
use Rattle.std.proofs.lemmas.Iterator.{YieldsList-from_range}
use Rattle.std.proofs.lemmas.Iterator.Search.{all_from_yields_List}
use Rattle.rules.specs.Book.{record_at}
use Rattle.machine.proofs.Clears.{is_zero, clear_is}
use Rattle.machine.proofs.records.is_clear.Goals as goal

pub returns : goal.returns
returns g c =
    let b = g.S.Store.book c.args.store.now in
    let n = c.args.n in
    let items = YieldsList-from_range 0 n n refl (omega arith) in
    all_from_yields_List (is_zero b (record_at c.args.k)) _ _ c.all.result c.all.ensures.ran items (λ x t q k. search (rules, tests)) ∙ clear_is b n c.args.k
