use Rattle.std.proofs.Common.{◌≡◌}
use Rattle.reversible.specs.Ledger.{screen_after}
use Rattle.rules.specs.Ledger.{screen_rules}
use Rattle.screen.specs.Model.{model}
use Rattle.screen.specs.Sessions.{written}
use Rattle.screen.proofs.Plays.{asked, answered}
use Rattle.screen.proofs.sessions.play.Given as goal

-- the screen is where the calls so far lead, and their replies are written
abbrev pub invariant-loop-k : goal.invariant-loop-k
invariant-loop-k g l =
    (model g.S.Store.book l.screen ≡ screen_after screen_rules (model g.S.Store.book l.initial.screen).book (asked l.calls l.k))
    × (l.replies ≡ written l.initial.replies (answered (model g.S.Store.book l.initial.screen).book (asked l.calls l.k)))
