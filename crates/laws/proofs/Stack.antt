-- The pairs open at each position of an allowed script, and what the check found of each line.
use Rattle.std.proofs.Common.{◌≡◌, ℕ, zero, suc, ◌+◌, ◌<◌, true, false, List, [], ◌∷◌, ◌++◌, length, take, sym, refl, ap, ◌∙◌, subst, zero-add, arith}
use mathlib.Core.List.{tail}
use Rattle.std.proofs.lemmas.List.{append_assoc, take_at, length-append}
use Rattle.rules.specs.Script.{Script, line_at, opens, closes}
use Rattle.rules.specs.Check.{after, walked, checked}
use Rattle.rules.specs.declared.Line.{Line}
use Rattle.laws.proofs.Nest.{Block, empty, plain, pair, unbracketed, closes_turned, Paired, open_at, close_at}
use Rattle.reversible.specs.Ledger.{accepted}
use Rattle.laws.proofs.Accepted.{Passed, judged_parts, walked_on, checked_parts}

abbrev pub stack : List Line → List Line → List Line
stack os [] = os
stack os (l ∷ ls) = stack (after os l) ls

abbrev pub stack_at : List Line → ℕ → List Line
stack_at ls p = stack [] (take p ls)

pub stack_append : (os a b : List Line) → stack os (a ++ b) ≡ stack (stack os a) b
stack_append os [] b = refl
stack_append os (l ∷ a) b = stack_append (after os l) a b

pub after_opener : (os : List Line) (l : Line) → opens l.kind ≡ true → after os l ≡ l ∷ os
after_opener os l h = rw h

pub after_closer : (os : List Line) (l : Line) → opens l.kind ≡ false → closes l.kind ≡ true → after os l ≡ tail os
after_closer os l h k = rw (h, k)

pub after_plain : (os : List Line) (l : Line) → opens l.kind ≡ false → closes l.kind ≡ false → after os l ≡ os
after_plain os l h k = rw (h, k)

-- a block leaves the open pairs as they are
pub stack_block : {b : List Line} → Block b → (os : List Line) → stack os b ≡ os
stack_block empty os = refl
stack_block (plain l a h p) os = let (o, c) = unbracketed l.kind h in ap (λ x. stack x a) (after_plain os l o c) ∙ stack_block p os
stack_block (pair o c a b opened kinds inner outer) os =
    let (cl, op, _, _) = closes_turned o.kind opened in
    ap (λ x. stack x (a ++ c ∷ b)) (after_opener os o opened)
    ∙ stack_append (o ∷ os) a (c ∷ b)
    ∙ ap (λ x. stack x (c ∷ b)) (stack_block inner (o ∷ os))
    ∙ ap (λ x. stack x b) (after_closer (o ∷ os) c (rw kinds op) (rw kinds cl))
    ∙ stack_block outer os

module _ (ls : List Line) (p : Paired ls) where
  abbrev pub below : List Line
  below = stack [] p.before

  pub stack_open : stack_at ls (open_at ls p) ≡ below
  stack_open = ap (stack []) (ap (take (open_at ls p)) p.whole ∙ take_at p.before (p.opener ∷ (p.inside ++ p.closer ∷ p.after)) (length p.before) refl)

  pub stack_opened : stack_at ls (suc (open_at ls p)) ≡ p.opener ∷ below
  stack_opened =
      ap (λ x. stack [] (take (suc (open_at ls p)) x)) (p.whole ∙ sym (append_assoc p.before (p.opener ∷ []) (p.inside ++ p.closer ∷ p.after)))
      ∙ ap (stack []) (take_at (p.before ++ p.opener ∷ []) (p.inside ++ p.closer ∷ p.after) (suc (open_at ls p)) (length-append p.before (p.opener ∷ []) ∙ omega arith))
      ∙ stack_append [] p.before (p.opener ∷ []) ∙ after_opener below p.opener p.opened

  pub stack_close : stack_at ls (close_at ls p) ≡ p.opener ∷ below
  stack_close =
      ap (λ x. stack [] (take (close_at ls p) x)) (p.whole ∙ sym (append_assoc p.before (p.opener ∷ p.inside) (p.closer ∷ p.after)))
      ∙ ap (stack []) (take_at (p.before ++ p.opener ∷ p.inside) (p.closer ∷ p.after) (close_at ls p) (length-append p.before (p.opener ∷ p.inside) ∙ omega arith))
      ∙ stack_append [] p.before (p.opener ∷ p.inside)
      ∙ ap (λ x. stack x p.inside) (after_opener below p.opener p.opened)
      ∙ stack_block p.block (p.opener ∷ below)

-- ---- what the check found of each line

walk_line : (sc : Script) (k : ℕ) (os ls : List Line) (i : ℕ) → walked sc k os ls ≡ accepted → i < length ls → Passed sc (k + i) (stack os (take i ls)) (line_at ls i)
walk_line sc k os [] i h l = absurd (omega arith)
walk_line sc k os (x ∷ ls) zero h l =
    let e : k ≡ k + 0 = omega arith in
    subst (λ n. Passed sc n os x) e (judged_parts sc k os x (walked_on sc k os x ls h).0)
walk_line sc k os (x ∷ ls) (suc i) h l =
    let e : suc k + i ≡ k + suc i = omega arith in
    subst (λ n. Passed sc n (stack (after os x) (take i ls)) (line_at ls i)) e (walk_line sc (suc k) (after os x) ls i (walked_on sc k os x ls h).1 (omega arith))

abbrev pub Found : Script → ℕ → Type 0
Found sc i = Passed sc i (stack_at sc.lines i) (line_at sc.lines i)

pub accepted_line : (sc : Script) → checked sc ≡ accepted → (i : ℕ) → i < length sc.lines → Found sc i
accepted_line sc h i l = subst (λ n. Passed sc n (stack_at sc.lines i) (line_at sc.lines i)) (zero-add i) (walk_line sc 0 [] sc.lines i (checked_parts sc h).1 l)
