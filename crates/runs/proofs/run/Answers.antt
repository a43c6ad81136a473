use Rattle.std.proofs.Common.{◌≡◌, Bool, true, false, Some, sym, refl, ap, ◌∙◌, arith}
use Rattle.reversible.specs.Machine.{refused, walk}
use Rattle.rules.specs.Book.{is_book}
use Rattle.rules.specs.Step.{State, with_book}
use Rattle.rules.specs.Run.{ahead, start, machine}
use Rattle.script.specs.Programs.{script_of}
use Rattle.work.specs.View.{state}
use Rattle.work.proofs.Methods.{accepted_from}
use Rattle.runs.specs.Endings.{facing}
use Rattle.runs.specs.Walks.{halted}
use Rattle.runs.proofs.Rolled.{refused_run}
use Rattle.runs.proofs.run.Goals as goal

ahead_facing : (b : Bool) → b ≡ ahead (facing b)
ahead_facing true = refl
ahead_facing false = refl

pub returns-in-Err : goal.returns-in-Err
returns-in-Err g c =
    let sc = script_of c.args.program.now in
    let a = g.S.Store.book c.args.store.now in
    let d = facing c.args.forward in
    let found : c.start.result ≡ Some c.in_ok-work.work = grind arith in
    let (there, started) = rw found at c.start.ensures in
    let held : is_book a ≡ true = sym c.has_book.ensures ∙ c.if-not-has_book.false in
    let begun : state c.in_ok-work.work a ≡ (machine sc).enter c.args.q d a = ap (with_book a) started ∙ ap (λ b. start sc b c.args.q a) (ahead_facing c.args.forward) in
    let e = c.in-Err.ensures ∙ ap (λ s. halted 0 (walk (machine sc) c.args.budget s)) begun in
    let r = c.in-Err.stopped in
    let (told, back) = refused_run sc (accepted_from sc c.args.program.now.right) c.args.q d a held there c.args.budget _ r e in
    let book = ap (λ (s : State). s.book) c.unwind.ensures ∙ back in
    record { outcome = rw (held, there) (ap (refused r.refusal r.line r.steps) book ∙ told); restored = book }
