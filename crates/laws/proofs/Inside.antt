-- Where a position of an allowed script lies: the method that it is inside of, and the pairs open there.
use Rattle.std.proofs.Common.{◌≡◌, ℕ, suc, ◌+◌, ◌<◌, ◌≤◌, Bool, true, false, cond, not, ◌&&◌, eqb, List, [], ◌∷◌, length, take, sym, refl, ap, ◌∙◌, subst, ap₂, inl, inr, ⊎_elim, arith}
use Rattle.std.proofs.lemmas.List.{take_more, take_all}
use Rattle.std.proofs.lemmas.Bool.{and_parts, eqb-true, ne_eqb, false≢true, cases_eq}
use Rattle.rules.specs.Script.{no_line, line_at, opens, closes, bracket, partner}
use Rattle.rules.specs.Check.{nests, after, depth}
use Rattle.rules.specs.Step.{past}
use Rattle.rules.specs.declared.Line.{Line}
use Rattle.laws.proofs.Accepted.{closing_kind}
use Rattle.laws.proofs.Nest.{Block, Paired, Has, open_at, close_at, pairs, at_close, partner_open, partner_close, closes_turned, unbracketed, paired_length}
use Rattle.laws.proofs.Stack.{stack, stack_at, stack_append, stack_block, after_closer, after_plain, below, stack_open, stack_opened, stack_close}

-- the openers open at a position, the last first, begin with the method's
pub data In (q : ℕ) : List Line → Type 0 where
  outer : (o : Line) → o.kind ≡ 0 → o.q ≡ q → In q (o ∷ [])
  inner : (o : Line) (os : List Line) → (o.kind ≡ 0 → ⊥) → In q os → In q (o ∷ os)

under : (q : ℕ) (o : Line) (os : List Line) → (o.kind ≡ 0 → ⊥) → In q (o ∷ os) → In q os
under q o os n (outer _ e _) = absurd (n e)
under q o os n (inner _ _ _ i) = i

alone : (q : ℕ) (o : Line) (os : List Line) → o.kind ≡ 0 → In q (o ∷ os) → (os ≡ []) × (o.q ≡ q)
alone q o os k (outer _ e h) = (refl, h)
alone q o os k (inner _ _ n i) = absurd (n k)

-- ---- a line that nests

not_begin : (o : Line) (os : List Line) (l : Line) → nests (o ∷ os) l ≡ true → l.kind ≡ 0 → ⊥
not_begin o os l h k = false≢true (rw k at h)

pub some : (q : ℕ) (os : List Line) → In q os → 0 < length os
some q os (outer o _ _) = omega arith
some q os (inner o os' _ _) = omega arith

pub in_after : (q : ℕ) (os : List Line) (l : Line) → nests os l ≡ true → In q os → (l.kind ≡ 1 → ⊥) → In q (after os l)
in_after q [] l h i n = let e = some q [] i in absurd (omega arith)
in_after q (o ∷ os) l h i n = by (opens l.kind) (closes l.kind) refl refl
  where
    by : (a c : Bool) → opens l.kind ≡ a → closes l.kind ≡ c → In q (cond a (l ∷ o ∷ os) (cond c os (o ∷ os)))
    by true c e f = inner l (o ∷ os) (not_begin o os l h) i
    by false true e f = under q o os (λ z. n (sym (closing_kind o os l h f) ∙ ap suc z)) i
    by false false e f = i

pub in_before : (q : ℕ) (os : List Line) (l : Line) → nests os l ≡ true → In q (after os l) → (l.kind ≡ 0 → ⊥) → (l.kind ≡ 1 → ⊥) → In q os
in_before q [] l h i n m = absurd (n (eqb-true l.kind 0 h))
in_before q (o ∷ os) l h i n m = by (opens l.kind) (closes l.kind) refl refl i
  where
    by : (a c : Bool) → opens l.kind ≡ a → closes l.kind ≡ c → In q (cond a (l ∷ o ∷ os) (cond c os (o ∷ os))) → In q (o ∷ os)
    by true c e f i = under q l (o ∷ os) n i
    by false true e f i = inner o os (λ z. m (sym (closing_kind o os l h f) ∙ ap suc z)) i
    by false false e f i = i

pub depth_same : (os : List Line) (l : Line) → nests os l ≡ true → (l.kind ≡ 8 → ⊥) → (l.kind ≡ 9 → ⊥) → depth (after os l) ≡ depth os
depth_same [] l h n m = by (opens l.kind) (closes l.kind)
  where
    by : (a c : Bool) → depth (cond a (l ∷ []) (cond c [] [])) ≡ 0
    by true c = rw (ne_eqb l.kind 8 n)
    by false true = refl
    by false false = refl
depth_same (o ∷ os) l h n m = by (opens l.kind) (closes l.kind) refl
  where
    by : (a c : Bool) → closes l.kind ≡ c → depth (cond a (l ∷ o ∷ os) (cond c os (o ∷ os))) ≡ depth (o ∷ os)
    by true c f = rw (ne_eqb l.kind 8 n)
    by false true f = rw (ne_eqb o.kind 8 (λ z. m (sym (closing_kind o os l h f) ∙ ap suc z)))
    by false false f = refl

pub depth_local : (os : List Line) (l : Line) → l.kind ≡ 8 → depth (after os l) ≡ suc (depth os)
depth_local os l k = rw k

pub depth_delocal : (os : List Line) (l : Line) → nests os l ≡ true → l.kind ≡ 9 → depth os ≡ suc (depth (after os l))
depth_delocal [] l h k = let e = eqb-true l.kind 0 h in absurd (omega arith)
depth_delocal (o ∷ os) l h k =
    let e = closing_kind o os l h (rw k refl) in
    let o8 : o.kind ≡ 8 = omega arith in
    rw (k, o8)

pub closing_q : (o : Line) (os : List Line) (l : Line) → nests (o ∷ os) l ≡ true → l.kind ≡ 1 → o.q ≡ l.q
closing_q o os l h k =
    let r : (eqb (suc o.kind) 1 && eqb o.q l.q) ≡ true = rw k at h in
    eqb-true o.q l.q (and_parts (eqb (suc o.kind) 1) _ r).1

-- an end lies in the method that it names, and no local is open there
pub at_end : (q : ℕ) (os : List Line) (l : Line) → nests os l ≡ true → In q os → l.kind ≡ 1 → (l.q ≡ q) × (depth os ≡ 0)
at_end q [] l h i k = let e = some q [] i in absurd (omega arith)
at_end q (o ∷ os) l h i k =
    let e = closing_kind o os l h (rw k refl) in
    let o0 : o.kind ≡ 0 = omega arith in
    let (none, is) = alone q o os o0 i in
    (sym (closing_q o os l h k) ∙ is, ap (λ x. depth (o ∷ x)) none ∙ rw o0)

-- a begin stands outside a method, and no local is open after it
pub at_begin : (os : List Line) (l : Line) → nests os l ≡ true → l.kind ≡ 0 → os ≡ []
at_begin [] l h k = refl
at_begin (o ∷ os) l h k = absurd (not_begin o os l h k)

pub begun : (q : ℕ) (os : List Line) (l : Line) → nests os l ≡ true → l.kind ≡ 0 → In q (after os l) → (l.q ≡ q) × (depth (after os l) ≡ 0)
begun q os l h k i =
    let e : after os l ≡ l ∷ [] = ap (λ x. after x l) (at_begin os l h k) ∙ rw k in
    ((alone q l [] k (subst (In q) e i)).1, ap depth e ∙ rw k)

-- ---- positions

pub stack_next : (ls : List Line) (l : ℕ) → l < length ls → stack_at ls (suc l) ≡ after (stack_at ls l) (line_at ls l)
stack_next ls l h =
    let e : suc l ≡ l + 1 = omega arith in
    ap (λ k. stack [] (take k ls)) e ∙ ap (stack []) (take_more ls l no_line h) ∙ stack_append [] (take l ls) (line_at ls l ∷ [])

pub stack_closed : (ls : List Line) (p : Paired ls) → stack_at ls (suc (close_at ls p)) ≡ below ls p
stack_closed ls p =
    let (cl, op, _, _) = closes_turned p.opener.kind p.opened in
    stack_next ls (close_at ls p) (omega (arith, paired_length ls p)) ∙ ap₂ after (stack_close ls p) (at_close ls p)
    ∙ after_closer (p.opener ∷ below ls p) p.closer (rw p.kinds op) (rw p.kinds cl)

-- over a pair from the far side of one line to the near side of the other
pub across_pair : (ls : List Line) → Block ls → (i : ℕ) → i < length ls → bracket (line_at ls i).kind ≡ true → (fw : Bool)
    → stack_at ls (past fw (partner ls i)) ≡ stack_at ls (past (not fw) i)
across_pair ls block i h b fw = by (pairs block i h b) fw
  where
    at_opener : (p : Paired ls) (fw : Bool) → stack_at ls (past fw (partner ls (open_at ls p))) ≡ stack_at ls (past (not fw) (open_at ls p))
    at_opener p true = ap (λ m. stack_at ls (suc m)) (partner_open ls p) ∙ stack_closed ls p ∙ sym (stack_open ls p)
    at_opener p false = ap (stack_at ls) (partner_open ls p) ∙ stack_close ls p ∙ sym (stack_opened ls p)

    at_closer : (p : Paired ls) (fw : Bool) → stack_at ls (past fw (partner ls (close_at ls p))) ≡ stack_at ls (past (not fw) (close_at ls p))
    at_closer p true = ap (λ m. stack_at ls (suc m)) (partner_close ls p) ∙ stack_opened ls p ∙ sym (stack_close ls p)
    at_closer p false = ap (stack_at ls) (partner_close ls p) ∙ stack_open ls p ∙ sym (stack_closed ls p)

    by : Has ls i → (fw : Bool) → stack_at ls (past fw (partner ls i)) ≡ stack_at ls (past (not fw) i)
    by (p, inl e) fw = subst (λ j. stack_at ls (past fw (partner ls j)) ≡ stack_at ls (past (not fw) j)) (sym e) (at_opener p fw)
    by (p, inr e) fw = subst (λ j. stack_at ls (past fw (partner ls j)) ≡ stack_at ls (past (not fw) j)) (sym e) (at_closer p fw)

pub partner_in : (ls : List Line) → Block ls → (i : ℕ) → i < length ls → bracket (line_at ls i).kind ≡ true → partner ls i < length ls
partner_in ls block i h b = by (pairs block i h b)
  where
    by : Has ls i → partner ls i < length ls
    by (p, inl e) = rw (e, partner_open ls p) (omega (arith, paired_length ls p))
    by (p, inr e) = rw (e, partner_close ls p) (omega (arith, paired_length ls p))

-- a line that neither opens nor closes leaves the open pairs as they are
pub plain_stack : (ls : List Line) (l : ℕ) → l < length ls → bracket (line_at ls l).kind ≡ false → (fw : Bool) → stack_at ls (past fw l) ≡ stack_at ls l
plain_stack ls l h b true = let (o, c) = unbracketed (line_at ls l).kind b in stack_next ls l h ∙ after_plain (stack_at ls l) (line_at ls l) o c
plain_stack ls l h b false = refl

pub stack_all : (ls : List Line) → Block ls → stack_at ls (length ls) ≡ []
stack_all ls block = ap (stack []) (take_all (length ls) ls (omega arith)) ∙ stack_block block []

pub in_range : (ls : List Line) → Block ls → (q p : ℕ) → p ≤ length ls → In q (stack_at ls p) → (0 < p) × (p < length ls)
in_range ls block q p h i = (⊎_elim (λ e. absurd (low e)) (λ n. omega arith) (cases_eq p 0), ⊎_elim (λ e. absurd (high e)) (λ n. omega arith) (cases_eq p (length ls)))
  where
    low : p ≡ 0 → ⊥
    low e = let n = some q [] (rw e at i) in omega arith

    high : p ≡ length ls → ⊥
    high e = let n = some q [] (subst (In q) (stack_all ls block) (rw e at i)) in omega arith
