use Rattle.std.proofs.Common.{◌≡◌, ℕ, zero, suc, ◌+◌, ◌≤◌, false, ltb, List, length, get_or, drop, replicate, Ok, sym, refl, ap, ◌∙◌, subst, arith}
use Rattle.std.proofs.lemmas.List.{get_or_default}
use Rattle.std.proofs.lemmas.Bool.{le-ltb}
use Rattle.reversible.specs.Ledger.{rejected}
use Rattle.script.specs.declared.checking.Fault.{Fault}
use Rattle.rules.specs.Script.{no_line, line_at}
use Rattle.rules.specs.Check.{walked, judged}
use Rattle.rules.specs.declared.Line.{Line}
use Rattle.laws.proofs.Accepted.{judged_parts}
use Rattle.script.specs.Verdicts.{script_from}
use Rattle.script.proofs.Stacks.{blank, after_long}
use Rattle.script.proofs.Walks.{Begun, judged_here, begun_next, goes_on, stops}
use Rattle.script.proofs.checking.check_lines.Goals as goal

none_yet : (n q w : ℕ) → get_or (replicate n false) q false ≡ ltb w 0
none_yet zero q w = sym (le-ltb w 0 (omega arith))
none_yet (suc n) zero w = sym (le-ltb w 0 (omega arith))
none_yet (suc n) (suc q) w = none_yet n q w

pub loop-k-init : goal.loop-k-init
loop-k-init c =
    let sc = script_from c.args.lines.now c.args.terms.now in
    let f : List Line → _ = λ os. walked sc 0 os sc.lines in
    let g : List Line → ℕ = length in
    (ap f c.new-openers.ensures, omega (arith, ap g c.new-openers.ensures), refl, λ q. none_yet 256 q _)

pub returns-in-Err : goal.returns-in-Err
returns-in-Err c =
    let sc = script_from c.args.lines.now c.args.terms.now in
    let k = c.loop-k.k in
    let l = get_or sc.lines k blank in
    let here : line_at sc.lines k ≡ l = get_or_default sc.lines k no_line blank c.loop-k-test.true in
    let f : Fault → _ = λ f. rejected f.refusal f.line in
    stops sc k c.loop-k.openers _ c.loop-k.invariant.0 blank c.in-Err.refusal c.loop-k-test.true
    (sym (judged_here sc k c.loop-k-test.true l here c.loop-k.begun c.loop-k.invariant.3 c.loop-k.openers) ∙ sym c.in-Err.ensures)
    ∙ sym (ap f c.fault_at.ensures)

pub loop-k-preserved : goal.loop-k-preserved
loop-k-preserved c =
    let sc = script_from c.args.lines.now c.args.terms.now in
    let k = c.loop-k.k in
    let os = c.loop-k.openers in
    let l = get_or sc.lines k blank in
    let here : line_at sc.lines k ≡ l = get_or_default sc.lines k no_line blank c.loop-k-test.true in
    let passed : judged sc k os l ≡ Ok tt = sym (judged_here sc k c.loop-k-test.true l here c.loop-k.begun c.loop-k.invariant.3 os) ∙ sym c.in_default.ensures in
    let f : List Line → _ = λ os. walked sc (k + 1) os (drop (k + 1) sc.lines) in
    let h : List Line → Type 0 = λ os. length os ≤ k + 1 in
    let g : List _ → Type 0 = λ b. Begun b sc.lines (k + 1) in (
      ap f c.pass.ensures ∙ goes_on sc k os _ c.loop-k.invariant.0 blank c.loop-k-test.true passed,
      subst h (sym c.pass.ensures) (after_long os l k c.loop-k.invariant.1),
      c.note.array_long,
      subst g (sym c.note.ensures) (begun_next sc k c.loop-k-test.true l here c.loop-k.begun c.loop-k.invariant.3 c.loop-k.invariant.2 (judged_parts sc k os l passed).filled),
    )
