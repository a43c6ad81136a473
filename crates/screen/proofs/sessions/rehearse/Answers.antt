use Rattle.std.proofs.Common.{ap, ◌∙◌}
use Rattle.laws.proofs.Stands.{whole}
use Rattle.screen.proofs.sessions.rehearse.Goals as goal

pub returns : goal.returns
returns g c =
    let l = c.play-left.ensures in
    let r = c.play-right.ensures in
    record {
      first = l.replies;
      second = r.replies;
      left = ap g.A.Store.book c.close.ensures ∙ l.book;
      right = ap g.B.Store.book c.close-2.ensures ∙ r.book;
      whole = whole;
    }
