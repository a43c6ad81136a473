use Rattle.std.proofs.Common.{◌≡◌, List, map, length, take, set, ℤ, sym, ap, ◌∙◌, subst, arith}
use lib.ListN.{length-map}
use Rattle.std.proofs.lemmas.List.{take_all, length-take-le}
use Rattle.reversible.specs.Ledger.{Screen as Model, open_screen}
use Rattle.rules.specs.Script.{Script}
use Rattle.rules.specs.Ledger.{screen_rules}
use Rattle.screen.specs.Model.{model}
use Rattle.screen.specs.Sessions.{call_of, Played}
use Rattle.screen.specs.declared.words.Reply.{Reply}
use Rattle.screen.proofs.Plays.{written_none, asked, screen_more, replies_more, played}
use Rattle.screen.proofs.sessions.play.Goals as goal

pub loop-k-init : goal.loop-k-init
loop-k-init g c =
    let f : List ℤ → Model (List ℤ) Script = open_screen screen_rules in
    let s = c.open-screen.ensures.store in
    (c.open-screen.ensures.screen ∙ ap f (ap g.S.Store.book (sym s)), sym (written_none c.args.replies.now))

pub loop-k-preserved : goal.loop-k-preserved
loop-k-preserved g c =
    let a = g.S.Store.book c.open-screen.result.store in
    let calls = c.args.calls.now in
    let k = c.loop-k.k in
    let m = model g.S.Store.book c.loop-k.screen in
    let size : length (asked calls k) ≡ k = length-map (take k calls) call_of ∙ length-take-le k calls (omega (arith, c.loop-k-test.true)) in
    let f : List Reply → List Reply = λ rs. set rs k c.make_call-reply.result in (
      c.make_call-reply.ensures.screen ∙ screen_more a calls k _ c.loop-k-test.true m c.loop-k.invariant.0,
      c.keep.ensures ∙ ap f c.loop-k.invariant.1 ∙ replies_more a calls k _ c.loop-k-test.true m c.loop-k.invariant.0 c.args.replies.now c.make_call-reply.result c.make_call-reply.ensures.answer size,
    )

pub returns : goal.returns
returns g c =
    let calls = c.args.calls.now in
    let k = c.loop-k.k in
    let all : asked calls k ≡ map call_of calls = ap (map call_of) (take_all k calls (omega arith)) in
    let m = model g.S.Store.book c.loop-k.screen in
    let P : List ℤ → Type 0 = λ a. Played a (map call_of calls) c.args.replies.now c.loop-k.replies m in
    subst P (ap g.S.Store.book c.open-screen.ensures.store)
    (played (g.S.Store.book c.open-screen.result.store) calls k c.args.replies.now c.loop-k.replies m all c.loop-k.invariant.0 c.loop-k.invariant.1)
