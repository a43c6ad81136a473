-- The methods of an allowed script: each has one begin and one end, and a called one is there.
use Rattle.std.proofs.Common.{◌≡◌, ℕ, zero, suc, ◌<◌, ◌≤◌, Bool, true, false, not, ◌&&◌, eqb, ◌⊎◌, List, [], ◌∷◌, length, sym, refl, ap, ◌∙◌, subst, ap₂, inl, inr, ⊎_elim, arith}
use Rattle.std.proofs.lemmas.Bool.{and_parts, and_from, eqb-true, eq-eqb, ltb-true, lt-ltb, false≢true, cases_Bool, both_ways}
use Rattle.rules.specs.Script.{Script, line_at, opens, closes, partner, turned_kind, where_is, has_method}
use Rattle.rules.specs.Check.{nests, after, depth, checked, walked, calls, within}
use Rattle.rules.specs.Step.{entry}
use Rattle.rules.specs.declared.Line.{Line}
use Rattle.laws.proofs.Accepted.{not_rejected, walked_on, checked_parts, accepted_block}
use Rattle.laws.proofs.Turning.{turned_twice}
use Rattle.laws.proofs.Nest.{Block, Paired, Has, open_at, close_at, pairs, at_open, at_close, partner_open, closes_turned, paired_length}
use Rattle.laws.proofs.Stack.{stack_at, below, stack_open, stack_opened, stack_close, Found, accepted_line}
use Rattle.laws.proofs.Inside.{In, outer, at_begin, closing_q, stack_closed}
use Rattle.rules.specs.declared.Refusal.{Refusal}
use Rattle.rules.specs.declared.Refusal.TheVariants.{WrongMethod}
use Rattle.reversible.specs.Ledger.{Verdict, accepted, rejected}

abbrev test : ℕ → ℕ → Line → Bool
test k q l = eqb l.kind k && eqb l.q q

pub where_here : (k q : ℕ) (l : Line) (ls : List Line) → test k q l ≡ true → where_is k q (l ∷ ls) ≡ 0
unfolding where_is
where_here k q l ls e = rw (e, where_is)

pub where_next : (k q : ℕ) (l : Line) (ls : List Line) → test k q l ≡ false → where_is k q (l ∷ ls) ≡ suc (where_is k q ls)
unfolding where_is
where_next k q l ls e = rw (e, where_is)

pub where_none : (k q : ℕ) → where_is k q [] ≡ 0
unfolding where_is
where_none k q = refl

pub where_at : (k q : ℕ) (ls : List Line) → where_is k q ls < length ls → ((line_at ls (where_is k q ls)).kind ≡ k) × ((line_at ls (where_is k q ls)).q ≡ q)
where_at k q [] h = absurd (omega arith)
where_at k q (l ∷ ls) h = ⊎_elim here (λ e. next e (where_at k q ls (omega (arith, where_next k q l ls e)))) (cases_Bool (test k q l))
  where
    here : test k q l ≡ true → ((line_at (l ∷ ls) (where_is k q (l ∷ ls))).kind ≡ k) × ((line_at (l ∷ ls) (where_is k q (l ∷ ls))).q ≡ q)
    here e = let (a, b) = and_parts (eqb l.kind k) (eqb l.q q) e in rw (where_here k q l ls e) (eqb-true l.kind k a, eqb-true l.q q b)

    next : test k q l ≡ false → ((line_at ls (where_is k q ls)).kind ≡ k) × ((line_at ls (where_is k q ls)).q ≡ q) → ((line_at (l ∷ ls) (where_is k q (l ∷ ls))).kind ≡ k) × ((line_at (l ∷ ls) (where_is k q (l ∷ ls))).q ≡ q)
    next e rest = rw (where_next k q l ls e) rest

pub where_hit : (k q : ℕ) (ls : List Line) (i : ℕ) → i < length ls → (line_at ls i).kind ≡ k → (line_at ls i).q ≡ q → where_is k q ls ≤ i
where_hit k q [] i h a b = absurd (omega arith)
where_hit k q (l ∷ ls) zero h a b = omega (arith, where_here k q l ls (and_from _ _ (eq-eqb l.kind k a) (eq-eqb l.q q b)))
where_hit k q (l ∷ ls) (suc i) h a b =
    ⊎_elim (λ e. omega (arith, where_here k q l ls e)) (λ e. omega (arith, where_next k q l ls e, where_hit k q ls i (omega arith) a b)) (cases_Bool (test k q l))

-- ---- calls of missing methods

walk_calls : (sc : Script) (k : ℕ) (os ls : List Line) → walked sc k os ls ≡ accepted → calls sc.lines 0 sc.lines ≡ accepted
walk_calls sc k [] [] h = h
walk_calls sc k (o ∷ os) [] h = not_rejected h
walk_calls sc k os (l ∷ ls) h = walk_calls sc (suc k) (after os l) ls (walked_on sc k os l ls h).1

calls_at : (all : List Line) (k : ℕ) (ls : List Line) (i : ℕ) → calls all k ls ≡ accepted → i < length ls → within 16 17 (line_at ls i).kind ≡ true → has_method all (line_at ls i).q ≡ true
calls_at all k [] i h n w = absurd (omega arith)
calls_at all k (l ∷ ls) i h n w = by (within 16 17 l.kind) (has_method all l.q) refl refl h i n w (calls_at all (suc k) ls)
  where
    by : (a b : Bool) → within 16 17 l.kind ≡ a → has_method all l.q ≡ b
        → elim (a && not b) as (λ _. Verdict Refusal) [ true ↦ rejected WrongMethod k | false ↦ calls all (suc k) ls ] ≡ accepted
        → (i : ℕ) → i < suc (length ls) → within 16 17 (line_at (l ∷ ls) i).kind ≡ true
        → ((i : ℕ) → calls all (suc k) ls ≡ accepted → i < length ls → within 16 17 (line_at ls i).kind ≡ true → has_method all (line_at ls i).q ≡ true)
        → has_method all (line_at (l ∷ ls) i).q ≡ true
    by true true e f h zero n w rest = f
    by true true e f h (suc i) n w rest = rest i h (omega arith) w
    by true false e f h i n w rest = not_rejected h
    by false true e f h zero n w rest = f
    by false true e f h (suc i) n w rest = rest i h (omega arith) w
    by false false e f h zero n w rest = absurd (both_ways (within 16 17 l.kind) e w)
    by false false e f h (suc i) n w rest = rest i h (omega arith) w

-- ---- the methods

module _ (sc : Script) (ok : checked sc ≡ accepted) where
  abbrev pub ls : List Line
  ls = sc.lines

  pub block : Block ls
  block = accepted_block sc ok

  pub found : (i : ℕ) → i < length ls → Found sc i
  found i h = accepted_line sc ok i h

  pub calls_method : (i : ℕ) → i < length ls → ((line_at ls i).kind ≡ 16) ⊎ ((line_at ls i).kind ≡ 17) → has_method ls (line_at ls i).q ≡ true
  calls_method i h k = calls_at ls 0 ls i (walk_calls sc 0 [] ls (checked_parts sc ok).1) h (⊎_elim (λ z. rw z refl) (λ z. rw z refl) k)

  begin_first : (i : ℕ) → i < length ls → (line_at ls i).kind ≡ 0 → where_is 0 (line_at ls i).q ls ≡ i
  begin_first i h k =
      let r : eqb (where_is 0 (line_at ls i).q ls) i ≡ true = rw k at (found i h).once in
      eqb-true _ i r

  -- a begin and its end
  pub record Method (q : ℕ) : Type 0 where
    pub pair : Paired ls
    pub begins : pair.opener.kind ≡ 0
    pub ends : pair.closer.kind ≡ 1
    pub opening : pair.opener.q ≡ q
    pub closing : pair.closer.q ≡ q
    pub free : below ls pair ≡ []
    pub first : where_is 0 q ls ≡ open_at ls pair
    pub last : where_is 1 q ls ≡ close_at ls pair

  module _ (p : Paired ls) where
    open_in : open_at ls p < length ls
    open_in = omega (arith, paired_length ls p)

    close_in : close_at ls p < length ls
    close_in = omega (arith, paired_length ls p)

    closer_q : p.closer.kind ≡ 1 → p.opener.q ≡ p.closer.q
    closer_q k =
        closing_q p.opener (below ls p) p.closer (ap₂ nests (sym (stack_close ls p)) (sym (at_close ls p)) ∙ (found (close_at ls p) close_in).nested) k

    first_is : p.opener.kind ≡ 0 → where_is 0 p.opener.q ls ≡ open_at ls p
    first_is k = ap (λ l. where_is 0 l.q ls) (sym (at_open ls p)) ∙ begin_first (open_at ls p) open_in (ap (λ l. l.kind) (at_open ls p) ∙ k)

  -- a line of kind 1 closes a pair that a begin opens
  closed_by : (i : ℕ) → i < length ls → (line_at ls i).kind ≡ 1 → (p : Paired ls) × (i ≡ close_at ls p) × (p.opener.kind ≡ 0)
  closed_by i h k = by (pairs block i h (rw k refl))
    where
      by : Has ls i → (p : Paired ls) × (i ≡ close_at ls p) × (p.opener.kind ≡ 0)
      by (p, inl e) = absurd (false≢true (ap opens (sym (ap (λ l. l.kind) (sym (at_open ls p) ∙ ap (line_at ls) (sym e)) ∙ k)) ∙ p.opened))
      by (p, inr e) =
          let c : p.closer.kind ≡ 1 = ap (λ l. l.kind) (sym (at_close ls p) ∙ ap (line_at ls) (sym e)) ∙ k in
          (p, e, sym (turned_twice p.opener.kind) ∙ ap turned_kind (sym p.kinds ∙ c))

  last_is : (p : Paired ls) → p.opener.kind ≡ 0 → where_is 1 p.opener.q ls ≡ close_at ls p
  last_is p k =
      let c : p.closer.kind ≡ 1 = p.kinds ∙ ap turned_kind k in
      let q = p.opener.q in
      let m = where_is 1 q ls in
      let at : line_at ls (close_at ls p) ≡ p.closer = at_close ls p in
      let low : m ≤ close_at ls p = where_hit 1 q ls (close_at ls p) (close_in p) (ap (λ l. l.kind) at ∙ c) (ap (λ l. l.q) at ∙ sym (closer_q p c)) in
      let n = close_in p in
      let inside : m < length ls = omega arith in
      let (mk, mq) = where_at 1 q ls inside in
      let (p', e, k') = closed_by m inside mk in
      let c' : p'.closer.kind ≡ 1 = p'.kinds ∙ ap turned_kind k' in
      let q' : p'.opener.q ≡ q = closer_q p' c' ∙ ap (λ l. l.q) (sym (at_close ls p') ∙ ap (line_at ls) (sym e)) ∙ mq in
      let same : open_at ls p' ≡ open_at ls p = sym (first_is p' k') ∙ ap (λ x. where_is 0 x ls) q' ∙ first_is p k in
      e ∙ sym (partner_open ls p') ∙ ap (partner ls) same ∙ partner_open ls p

  free_is : (p : Paired ls) → p.opener.kind ≡ 0 → below ls p ≡ []
  free_is p k = sym (stack_open ls p) ∙ at_begin (stack_at ls (open_at ls p)) (line_at ls (open_at ls p)) (found (open_at ls p) (open_in p)).nested (ap (λ l. l.kind) (at_open ls p) ∙ k)

  -- outside of methods after an end
  pub end_free : (i : ℕ) → i < length ls → (line_at ls i).kind ≡ 1 → stack_at ls (suc i) ≡ []
  end_free i h k = let (p, e, o) = closed_by i h k in ap (λ j. stack_at ls (suc j)) e ∙ stack_closed ls p ∙ free_is p o

  pub pair_q : (p : Paired ls) → p.opener.kind ≡ 0 → p.closer.q ≡ p.opener.q
  pair_q p k = sym (closer_q p (p.kinds ∙ ap turned_kind k))

  pub of_pair : (p : Paired ls) → p.opener.kind ≡ 0 → Method p.opener.q
  of_pair p k =
      let c : p.closer.kind ≡ 1 = p.kinds ∙ ap turned_kind k in
      record {
        pair = p;
        begins = k;
        ends = c;
        opening = refl;
        closing = sym (closer_q p c);
        free = free_is p k;
        first = first_is p k;
        last = last_is p k;
      }

  pub method_of : (q : ℕ) → has_method ls q ≡ true → Method q
  method_of q h =
      let inside = ltb-true (where_is 0 q ls) (length ls) h in
      let (k, is) = where_at 0 q ls inside in
      by inside k is (pairs block (where_is 0 q ls) inside (rw k refl))
    where
      by : where_is 0 q ls < length ls → (line_at ls (where_is 0 q ls)).kind ≡ 0 → (line_at ls (where_is 0 q ls)).q ≡ q → Has ls (where_is 0 q ls) → Method q
      by inside k is (p, inl e) =
          let at : p.opener ≡ line_at ls (where_is 0 q ls) = sym (at_open ls p) ∙ ap (line_at ls) (sym e) in
          subst Method (ap (λ l. l.q) at ∙ is) (of_pair p (ap (λ l. l.kind) at ∙ k))
      by inside k is (p, inr e) =
          let at : p.closer ≡ line_at ls (where_is 0 q ls) = sym (at_close ls p) ∙ ap (line_at ls) (sym e) in
          absurd (false≢true (ap closes (sym (sym p.kinds ∙ ap (λ l. l.kind) at ∙ k)) ∙ (closes_turned p.opener.kind p.opened).0))

  -- the line of a method's begin is the first of its kind, and that of its end too
  pub begin_is : (i : ℕ) → i < length ls → (line_at ls i).kind ≡ 0 → where_is 0 (line_at ls i).q ls ≡ i
  begin_is i h k = begin_first i h k

  pub end_is : (i : ℕ) → i < length ls → (line_at ls i).kind ≡ 1 → where_is 1 (line_at ls i).q ls ≡ i
  end_is i h k =
      let (p, e, o) = closed_by i h k in
      let q : (line_at ls i).q ≡ p.opener.q = ap (λ l. l.q) (ap (line_at ls) e ∙ at_close ls p) ∙ sym (closer_q p (p.kinds ∙ ap turned_kind o)) in
      ap (λ x. where_is 1 x ls) q ∙ last_is p o ∙ sym e

  pub end_method : (i : ℕ) → i < length ls → (line_at ls i).kind ≡ 1 → has_method ls (line_at ls i).q ≡ true
  end_method i h k =
      let (p, e, o) = closed_by i h k in
      let q : (line_at ls i).q ≡ p.opener.q = ap (λ l. l.q) (ap (line_at ls) e ∙ at_close ls p) ∙ sym (closer_q p (p.kinds ∙ ap turned_kind o)) in
      lt-ltb (where_is 0 (line_at ls i).q ls) (length ls) (let w = ap (λ x. where_is 0 x ls) q ∙ first_is p o in let n = open_in p in omega arith)

  -- where a method is entered
  pub entered_in : (q : ℕ) → Method q → (fw : Bool) → (entry sc fw q ≤ length ls) × In q (stack_at ls (entry sc fw q)) × (depth (stack_at ls (entry sc fw q)) ≡ 0)
  entered_in q m fw = by fw
    where
      p : Paired ls
      p = m.pair

      o : Line
      o = m.pair.opener

      at : (fw : Bool) → stack_at ls (entry sc fw q) ≡ o ∷ []
      at true = ap (λ k. stack_at ls (suc k)) m.first ∙ stack_opened ls p ∙ ap {B = List Line} (λ x. o ∷ x) m.free
      at false = ap (stack_at ls) m.last ∙ stack_close ls p ∙ ap {B = List Line} (λ x. o ∷ x) m.free

      low : (fw : Bool) → entry sc fw q ≤ length ls
      low true = omega (arith, m.first, paired_length ls p)
      low false = omega (arith, m.last, paired_length ls p)

      by : (fw : Bool) → (entry sc fw q ≤ length ls) × In q (stack_at ls (entry sc fw q)) × (depth (stack_at ls (entry sc fw q)) ≡ 0)
      by fw = (low fw, subst (In q) (sym (at fw)) (outer o m.begins m.opening), ap depth (at fw) ∙ rw m.begins)
