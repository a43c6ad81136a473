-- The lines of an allowed script nest properly.
use Rattle.std.proofs.Common.{◌≡◌, ℕ, suc, Bool, true, false, cond, not, ◌&&◌, ◌||◌, eqb, List, [], ◌∷◌, ◌++◌, Ok, Err, Result, sym, refl, ap, ◌∙◌, subst, arith}
use mathlib.Core.List.{tail}
use Rattle.std.proofs.lemmas.List.{append_assoc, append-nil}
use Rattle.std.proofs.lemmas.Bool.{eqb-true, and_parts, false≢true}
use Rattle.rules.specs.Answer.{either}
use Rattle.rules.specs.Script.{Script, turned_kind, bracket, opens, closes, where_is}
use Rattle.rules.specs.Check.{well_filled, nests, well_formed, apart, after, judged, walked, small, checked}
use Rattle.rules.specs.declared.Line.{Line}
use Rattle.laws.proofs.Chains.{held, needed, chose}
use Rattle.laws.proofs.Nest.{Block, empty, plain, pair, joined, closes_turned}
use Rattle.rules.specs.declared.Refusal.{Refusal}
use Rattle.reversible.specs.Ledger.{Verdict, accepted, rejected}

-- lines in which these openers, the last first, are not yet closed
data Opened : List Line → List Line → Type 0 where
  none : (b : List Line) → Block b → Opened [] b
  more : (o : Line) (os pre b : List Line) → opens o.kind ≡ true → Opened os pre → Block b → Opened (o ∷ os) (pre ++ o ∷ b)

extended : {os pre : List Line} → Opened os pre → (c : List Line) → Block c → Opened os (pre ++ c)
extended (none b p) c q = none (b ++ c) (joined p q)
extended (more o os pre b opened below p) c q = subst (Opened (o ∷ os)) (sym (append_assoc pre (o ∷ b) c)) (more o os pre (b ++ c) opened below (joined p q))

pub closing_kind : (o : Line) (os : List Line) (l : Line) → nests (o ∷ os) l ≡ true → closes l.kind ≡ true → suc o.kind ≡ l.kind
closing_kind o os l h f =
    let X = eqb (suc o.kind) l.kind in
    let Y = not (eqb l.kind 1) || eqb o.q l.q in
    let r : (not (closes l.kind) || (X && Y)) ≡ true = (and_parts (not (eqb l.kind 0)) (not (closes l.kind) || (X && Y)) h).1 in
    let r' : (X && Y) ≡ true = rw f at r in
    eqb-true (suc o.kind) l.kind (and_parts X Y r').0

closing : (os pre : List Line) (l : Line) → Opened os pre → nests os l ≡ true → closes l.kind ≡ true → Opened (tail os) (pre ++ l ∷ [])
closing [] pre l (none b p) h f = absurd (false≢true (ap closes (sym (eqb-true l.kind 0 h)) ∙ f))
closing (o ∷ os) pre l (more _ _ front b opened below p) h f =
    let kinds : l.kind ≡ turned_kind o.kind = sym (closing_kind o os l h f) ∙ sym (closes_turned o.kind opened).3 in
    subst (Opened os) (sym (append_assoc front (o ∷ b) (l ∷ []))) (extended below (o ∷ (b ++ l ∷ [])) (pair o l b [] opened kinds p empty))

pub neither : (k : ℕ) → opens k ≡ false → closes k ≡ false → bracket k ≡ false
neither k e f = grind arith

-- a line that nests leads on
nested : (os pre : List Line) (l : Line) → Opened os pre → nests os l ≡ true → Opened (after os l) (pre ++ l ∷ [])
nested os pre l p h = by (opens l.kind) (closes l.kind) refl refl
  where
    by : (o c : Bool) → opens l.kind ≡ o → closes l.kind ≡ c → Opened (cond o (l ∷ os) (cond c (tail os) os)) (pre ++ l ∷ [])
    by true c e f = more l os pre [] e p empty
    by false true e f = closing os pre l p h f
    by false false e f = extended p (l ∷ []) (plain l [] (neither l.kind e f) empty)

-- ---- an accepted script, line by line

pub not_rejected : {X : Type 0} {r : Refusal} {k : ℕ} → ◌≡◌ {A = Verdict Refusal} (rejected r k) accepted → X
not_rejected e = absurd (let z : ◌≡◌ {A = ℕ} 0 1 = cc in omega arith)

-- a walk that accepts found nothing wrong with its first line, and accepts the rest
pub walked_on : (sc : Script) (k : ℕ) (os : List Line) (l : Line) (ls : List Line) → walked sc k os (l ∷ ls) ≡ accepted → (judged sc k os l ≡ Ok tt) × (walked sc (suc k) (after os l) ls ≡ accepted)
walked_on sc k os l ls h = by (judged sc k os l) refl h
  where
    by : (r : Result (Unit {0}) Refusal) → judged sc k os l ≡ r → either r (λ _. walked sc (suc k) (after os l) ls) (λ r. rejected r k) ≡ accepted
        → (judged sc k os l ≡ Ok tt) × (walked sc (suc k) (after os l) ls ≡ accepted)
    by (Ok v) e h = (e, h)
    by (Err r) e h = not_rejected h

pub checked_parts : (sc : Script) → checked sc ≡ accepted → (small sc ≡ true) × (walked sc 0 [] sc.lines ≡ accepted)
checked_parts sc h = chose (small sc) _ _ h (λ s e. (s, e)) (λ _ e. not_rejected e)

-- what the check found of a line, the openers os being open before it
pub record Passed (sc : Script) (k : ℕ) (os : List Line) (l : Line) : Type 0 where
  pub filled : well_filled l ≡ true
  pub nested : nests os l ≡ true
  pub once : (not (eqb l.kind 0) || eqb (where_is 0 l.q sc.lines) k) ≡ true
  pub formed : well_formed sc.terms os l ≡ true
  pub separate : apart sc.terms l ≡ true

pub judged_parts : (sc : Script) (k : ℕ) (os : List Line) (l : Line) → judged sc k os l ≡ Ok tt → Passed sc k os l
judged_parts sc k os l e =
    held _ _ _ e λ filled e.
    held _ _ _ e λ nested e.
    held _ _ _ e λ once e.
    held _ _ _ e λ formed e.
    record { filled = filled; nested = nested; once = once; formed = formed; separate = needed _ _ e }

walk_block : (sc : Script) (k : ℕ) (os pre ls : List Line) → Opened os pre → walked sc k os ls ≡ accepted → Block (pre ++ ls)
walk_block sc k [] pre [] (none b p) h = subst Block (sym (append-nil b)) p
walk_block sc k (o ∷ os) pre [] p h = not_rejected h
walk_block sc k os pre (l ∷ ls) p h =
    let (here, rest) = walked_on sc k os l ls h in
    subst Block (append_assoc pre (l ∷ []) ls) (walk_block sc (suc k) (after os l) (pre ++ l ∷ []) ls (nested os pre l p (judged_parts sc k os l here).nested) rest)

pub accepted_block : (sc : Script) → checked sc ≡ accepted → Block sc.lines
accepted_block sc h = walk_block sc 0 [] [] sc.lines (none [] empty) (checked_parts sc h).1
