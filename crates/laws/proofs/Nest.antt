-- Pairs that nest properly, and the other line of a pair.
use Rattle.std.proofs.Common.{◌≡◌, ℕ, zero, suc, ◌+◌, ◌-◌, ◌<◌, ◌≤◌, true, false, ltb, ◌⊎◌, List, [], ◌∷◌, ◌++◌, map, reverse, length, get_or, take, drop, sym, refl, ap, ◌∙◌, subst, ap₂, subst₂, inl, inr, ⊎_elim, suc-add, zero-add, arith}
use lib.Dec.{eqb-suc-zero}
use Rattle.std.proofs.lemmas.List.{append_assoc, append-nil, map-append, reverse-append, length-append, length-map, length-reverse, take_at, drop_at, get_or_at, get_or_append_left, get_or-append_right}
use Rattle.std.proofs.lemmas.Bool.{cases_lt, cases_eq, cond-true, cond-false, false≢true, le-ltb}
use Rattle.rules.specs.Script.{no_line, line_at, turned_kind, turned_line, turned, bracket, opens, closes, to_closer, partner}
use Rattle.rules.specs.declared.Line.{Line}
use Rattle.laws.proofs.Turning.{each_at, turned_twice}

pub data Block : List Line → Type 0 where
  empty : Block []
  plain : (l : Line) (a : List Line) → bracket l.kind ≡ false → Block a → Block (l ∷ a)
  pair : (o c : Line) (a b : List Line) → opens o.kind ≡ true → c.kind ≡ turned_kind o.kind → Block a → Block b → Block (o ∷ a ++ c ∷ b)

-- ---- kinds

no_high : (k : ℕ) → 10 ≤ k → opens k ≡ true → ⊥
no_high k l e = grind arith

pub closes_turned : (k : ℕ) → opens k ≡ true → (closes (turned_kind k) ≡ true) × (opens (turned_kind k) ≡ false) × (closes k ≡ false) × (turned_kind k ≡ suc k)
closes_turned k h = ⊎_elim low high (cases_lt k 10) h
  where
    P : ℕ → Type 0
    P k = opens k ≡ true → (closes (turned_kind k) ≡ true) × (opens (turned_kind k) ≡ false) × (closes k ≡ false) × (turned_kind k ≡ suc k)

    low : k < 10 → P k
    low l = each_at P 0 10 k (
      (λ _. (refl, refl, refl, refl)),
      (
        (λ e. absurd (false≢true e)),
        (
          (λ e. absurd (false≢true e)),
          (
            (λ e. absurd (false≢true e)),
            ((λ _. (refl, refl, refl, refl)), ((λ e. absurd (false≢true e)), ((λ _. (refl, refl, refl, refl)), ((λ e. absurd (false≢true e)), ((λ _. (refl, refl, refl, refl)), ((λ e. absurd (false≢true e)), tt)))))),
          ),
        ),
      ),
    )
        (omega arith) (omega arith)

    high : 10 ≤ k → P k
    high l e = absurd (no_high k l e)

pub unbracketed : (k : ℕ) → bracket k ≡ false → (opens k ≡ false) × (closes k ≡ false)
unbracketed k h = rw h (refl, refl)

-- ---- the walk to the closer passes over blocks

at_plain : (l : Line) (r : List Line) (d : ℕ) → bracket l.kind ≡ false → to_closer (l ∷ r) d ≡ suc (to_closer r d)
unfolding to_closer
at_plain l r d h = let (o, c) = unbracketed l.kind h in rw (o, c)

at_opener : (l : Line) (r : List Line) (d : ℕ) → opens l.kind ≡ true → to_closer (l ∷ r) d ≡ suc (to_closer r (suc d))
unfolding to_closer
at_opener l r d h = rw (h, (closes_turned l.kind h).2)

at_closer : (l : Line) (r : List Line) (d : ℕ) → closes l.kind ≡ true → opens l.kind ≡ false → to_closer (l ∷ r) (suc d) ≡ suc (to_closer r d)
unfolding to_closer
at_closer l r d h o =
    let m : suc d - 1 ≡ d = omega arith in
    rw (h, o, m, eqb-suc-zero d)

at_end : (l : Line) (r : List Line) → closes l.kind ≡ true → to_closer (l ∷ r) 0 ≡ 0
unfolding to_closer
at_end l r h = rw h

over_block : {a : List Line} → Block a → (r : List Line) (d : ℕ) → to_closer (a ++ r) d ≡ length a + to_closer r d
over_block empty r d = sym (zero-add (to_closer r d))
over_block (plain l a h block) r d = at_plain l (a ++ r) d h ∙ ap suc (over_block block r d) ∙ sym (suc-add (length a) (to_closer r d))
over_block (pair o c a b opened kinds inner outer) r d =
    let (cl, op, _, _) = closes_turned o.kind opened in
    let cl' : closes c.kind ≡ true = rw kinds cl in
    let op' : opens c.kind ≡ false = rw kinds op in
    at_opener o ((a ++ c ∷ b) ++ r) d opened
    ∙ ap suc
    (ap (λ x. to_closer x (suc d)) (append_assoc a (c ∷ b) r)
    ∙ over_block inner (c ∷ (b ++ r)) (suc d)
    ∙ ap (λ n. length a + n) (at_closer c (b ++ r) d cl' op' ∙ ap suc (over_block outer r d)))
    ∙ sums (length a) (length b) (to_closer r d) (length (a ++ c ∷ b)) (length-append a (c ∷ b))
  where
    sums : (m n x y : ℕ) → y ≡ m + suc n → suc (m + suc (n + x)) ≡ suc y + x
    sums m n x y e = omega arith

-- ---- blocks

pub joined : {a b : List Line} → Block a → Block b → Block (a ++ b)
joined empty q = q
joined {b = b} (plain l a h p) q = plain l (a ++ b) h (joined p q)
joined {b = b} (pair o c a d opened kinds inner outer) q =
    subst Block (ap {B = List Line} (λ x. o ∷ x) (sym (append_assoc a (c ∷ d) b))) (pair o c a (d ++ b) opened kinds inner (joined outer q))

pub turned_append : (a b : List Line) → turned (a ++ b) ≡ turned b ++ turned a
turned_append a b = ap (map turned_line) (reverse-append a b) ∙ map-append turned_line (reverse b) (reverse a)

pub turned_cons : (l : Line) (a : List Line) → turned (l ∷ a) ≡ turned a ++ (turned_line l ∷ [])
turned_cons l a = turned_append (l ∷ []) a

pub bracket_turned : (k : ℕ) → bracket (turned_kind k) ≡ bracket k
bracket_turned k = ⊎_elim low high (cases_lt k 14)
  where
    P : ℕ → Type 0
    P k = bracket (turned_kind k) ≡ bracket k

    low : k < 14 → P k
    low l = each_at P 0 14 k (refl, (refl, (refl, (refl, (refl, (refl, (refl, (refl, (refl, (refl, (refl, (refl, (refl, (refl, tt)))))))))))))) (omega arith) (omega arith)

    high : 14 ≤ k → P k
    high l = ap bracket (cond-false (ltb k 14) _ _ (le-ltb k 14 l))

pub turned_block : {a : List Line} → Block a → Block (turned a)
turned_block empty = empty
turned_block (plain l a h p) = subst Block (sym (turned_cons l a)) (joined (turned_block p) (plain (turned_line l) [] (bracket_turned l.kind ∙ h) empty))
turned_block (pair o c a b opened kinds inner outer) =
    let o' = turned_line o in
    let c' = turned_line c in
    let same : turned (o ∷ (a ++ c ∷ b)) ≡ turned b ++ (c' ∷ (turned a ++ (o' ∷ []))) =
    turned_cons o (a ++ c ∷ b)
    ∙ ap (λ x. x ++ (o' ∷ [])) (turned_append a (c ∷ b) ∙ ap (λ x. x ++ turned a) (turned_cons c b))
    ∙ append_assoc (turned b ++ (c' ∷ [])) (turned a) (o' ∷ [])
    ∙ append_assoc (turned b) (c' ∷ []) (turned a ++ (o' ∷ [])) in
    let opened' : opens (turned_kind c.kind) ≡ true = rw (kinds, turned_twice o.kind) opened in
    subst Block (sym same) (joined (turned_block outer) (pair c' o' (turned a) [] opened' (sym kinds ∙ sym (turned_twice c.kind)) (turned_block inner) empty))

-- ---- the other line of a pair

pub record Paired (ls : List Line) : Type 0 where
  pub before : List Line
  pub opener : Line
  pub inside : List Line
  pub closer : Line
  pub after : List Line
  pub whole : ls ≡ before ++ opener ∷ (inside ++ closer ∷ after)
  pub opened : opens opener.kind ≡ true
  pub kinds : closer.kind ≡ turned_kind opener.kind
  pub block : Block inside

module _ (ls : List Line) (p : Paired ls) where
  abbrev pub open_at : ℕ
  open_at = length p.before

  abbrev pub close_at : ℕ
  close_at = suc (length p.before + length p.inside)

  pub at_open : line_at ls open_at ≡ p.opener
  at_open = rw p.whole (get_or_at p.before p.opener (p.inside ++ p.closer ∷ p.after) _ (length p.before) refl)

  -- the same lines, cut before the closer
  cut : ls ≡ (p.before ++ p.opener ∷ p.inside) ++ p.closer ∷ p.after
  cut = p.whole ∙ sym (append_assoc p.before (p.opener ∷ p.inside) (p.closer ∷ p.after))

  cut_length : length (p.before ++ p.opener ∷ p.inside) ≡ close_at
  cut_length = length-append p.before (p.opener ∷ p.inside) ∙ omega arith

  pub at_close : line_at ls close_at ≡ p.closer
  at_close = rw cut (get_or_at (p.before ++ p.opener ∷ p.inside) p.closer p.after _ close_at cut_length)

  to_close : to_closer (drop (suc open_at) ls) 0 ≡ length p.inside
  to_close =
      ap (λ x. to_closer (drop (suc open_at) x) 0) (p.whole ∙ sym (append_assoc p.before (p.opener ∷ []) (p.inside ++ p.closer ∷ p.after)))
      ∙ ap (λ x. to_closer x 0) (drop_at (p.before ++ (p.opener ∷ [])) (p.inside ++ p.closer ∷ p.after) (suc open_at) (length-append p.before (p.opener ∷ []) ∙ omega arith))
      ∙ over_block p.block (p.closer ∷ p.after) 0
      ∙ ap (λ n. length p.inside + n) (at_end p.closer p.after (rw p.kinds (closes_turned p.opener.kind p.opened).0))
      ∙ omega arith

  to_open : to_closer (turned (take close_at ls)) 0 ≡ length p.inside
  to_open =
      ap (λ x. to_closer (turned (take close_at x)) 0) cut
      ∙ ap (λ x. to_closer (turned x) 0) (take_at (p.before ++ p.opener ∷ p.inside) (p.closer ∷ p.after) close_at cut_length)
      ∙ ap (λ x. to_closer x 0)
      (turned_append p.before (p.opener ∷ p.inside) ∙ ap (λ x. x ++ turned p.before) (turned_cons p.opener p.inside)
      ∙ append_assoc (turned p.inside) (turned_line p.opener ∷ []) (turned p.before))
      ∙ over_block (turned_block p.block) (turned_line p.opener ∷ turned p.before) 0
      ∙ ap₂ (λ m n. m + n) (length-map (reverse p.inside) turned_line ∙ length-reverse p.inside)
      (at_end (turned_line p.opener) (turned p.before) (closes_turned p.opener.kind p.opened).0)
      ∙ omega arith

  pub partner_open : partner ls open_at ≡ close_at
  unfolding partner
  partner_open =
      cond-true (opens (line_at ls open_at).kind) _ _ (ap (λ l. opens l.kind) at_open ∙ p.opened) ∙ ap (λ n. suc open_at + n) to_close ∙ omega arith

  pub partner_close : partner ls close_at ≡ open_at
  unfolding partner
  partner_close =
      cond-false (opens (line_at ls close_at).kind) _ _ (ap (λ l. opens l.kind) at_close ∙ rw p.kinds (closes_turned p.opener.kind p.opened).1)
      ∙ cond-true (closes (line_at ls close_at).kind) _ _ (ap (λ l. closes l.kind) at_close ∙ rw p.kinds (closes_turned p.opener.kind p.opened).0)
      ∙ ap (λ n. close_at - suc n) to_open ∙ omega arith

-- ---- every line of a block that opens or closes a pair has its pair

abbrev pub Has : List Line → ℕ → Type 0
Has ls i = (p : Paired ls) × ((i ≡ open_at ls p) ⊎ (i ≡ close_at ls p))

shifted : (a ls b : List Line) → Paired ls → Paired (a ++ (ls ++ b))
shifted a ls b p =
    let bf = p.before in
    let tail = p.inside ++ p.closer ∷ (p.after ++ b) in
    record {
      before = a ++ bf;
      opener = p.opener;
      inside = p.inside;
      closer = p.closer;
      after = p.after ++ b;
      whole =
          ap (λ x. a ++ (x ++ b)) p.whole
          ∙ ap (λ x. a ++ x) (append_assoc bf (p.opener ∷ (p.inside ++ p.closer ∷ p.after)) b
          ∙ ap (λ x. bf ++ p.opener ∷ x) (append_assoc p.inside (p.closer ∷ p.after) b))
          ∙ sym (append_assoc a bf (p.opener ∷ tail));
      opened = p.opened;
      kinds = p.kinds;
      block = p.block;
    }

shift : (a ls b : List Line) (i : ℕ) → Has ls i → Has (a ++ (ls ++ b)) (length a + i)
unfolding shifted
shift a ls b i (p, inl e) = (shifted a ls b p, inl (omega (arith, length-append a p.before)))
shift a ls b i (p, inr e) = (shifted a ls b p, inr (omega (arith, length-append a p.before)))

-- the same, at lists and places that are known to be those
moved : (a ls b : List Line) (i : ℕ) (all : List Line) (j : ℕ) → a ++ (ls ++ b) ≡ all → length a + i ≡ j → Has ls i → Has all j
moved a ls b i all j e n h = subst₂ Has e n (shift a ls b i h)

pub pairs : {ls : List Line} → Block ls → (i : ℕ) → i < length ls → bracket (line_at ls i).kind ≡ true → Has ls i
pairs empty i h b = absurd (omega arith)
pairs (plain l a n p) zero h b = absurd (false≢true (sym n ∙ b))
pairs (plain l a n p) (suc i) h b =
    moved (l ∷ []) a [] i (l ∷ a) (suc i) (ap {B = List Line} (λ x. l ∷ x) (append-nil a)) (omega arith) (pairs p i (omega arith) b)
pairs (pair o c a b opened kinds inner outer) zero h br =
    (record { before = []; opener = o; inside = a; closer = c; after = b; whole = refl; opened = opened; kinds = kinds; block = inner }, inl refl)
pairs (pair o c a b opened kinds inner outer) (suc j) h br =
    ⊎_elim
    (λ low. moved (o ∷ []) a (c ∷ b) j (o ∷ (a ++ c ∷ b)) (suc j) refl (omega arith)
    (pairs inner j low (ap (λ l. bracket l.kind) (sym (get_or_append_left a (c ∷ b) no_line j low)) ∙ br)))
    (λ high. ⊎_elim
    (λ e. (record { before = []; opener = o; inside = a; closer = c; after = b; whole = refl; opened = opened; kinds = kinds; block = inner }, inr (omega arith)))
    (λ ne.
    let k = j - suc (length a) in
    let e : j - length a ≡ suc k = omega arith in
    moved (o ∷ (a ++ (c ∷ []))) b [] k (o ∷ (a ++ c ∷ b)) (suc j)
    (ap {B = List Line} (λ x. o ∷ x) (append_assoc a (c ∷ []) (b ++ []) ∙ ap (λ x. a ++ c ∷ x) (append-nil b)))
    (omega (arith, length-append a (c ∷ [])))
    (pairs outer k (omega (arith, length-append a (c ∷ b)))
    (ap (λ l. bracket l.kind) (sym (get_or-append_right a (c ∷ b) (length a) j no_line refl high ∙ ap (λ n. get_or (c ∷ b) n no_line) e)) ∙ br)))
    (cases_eq j (length a)))
    (cases_lt j (length a))

-- ---- what it gives of each line that opens or closes

pub other_line : (ls : List Line) → Block ls → (i : ℕ) → i < length ls → bracket (line_at ls i).kind ≡ true
    → (partner ls (partner ls i) ≡ i) × ((line_at ls (partner ls i)).kind ≡ turned_kind (line_at ls i).kind)
other_line ls block i h b = by (pairs block i h b)
  where
    by : Has ls i → (partner ls (partner ls i) ≡ i) × ((line_at ls (partner ls i)).kind ≡ turned_kind (line_at ls i).kind)
    by (p, inl e) = rw (e, partner_open ls p)
        (partner_close ls p, ap (λ l. l.kind) (at_close ls p) ∙ p.kinds ∙ ap (λ l. turned_kind l.kind) (sym (at_open ls p)))
    by (p, inr e) = rw (e, partner_close ls p)
        (partner_open ls p, ap (λ l. l.kind) (at_open ls p) ∙ sym (turned_twice p.opener.kind) ∙ ap turned_kind (sym p.kinds) ∙ ap (λ l. turned_kind l.kind) (sym (at_close ls p)))

-- ---- turned

unfoldable pub turned_paired : (ls : List Line) → Paired ls → Paired (turned ls)
turned_paired ls p =
    let o' = turned_line p.opener in
    let c' = turned_line p.closer in
    record {
      before = turned p.after;
      opener = c';
      inside = turned p.inside;
      closer = o';
      after = turned p.before;
      whole =
          ap turned p.whole
          ∙ turned_append p.before (p.opener ∷ (p.inside ++ p.closer ∷ p.after))
          ∙ ap (λ x. x ++ turned p.before) (turned_cons p.opener (p.inside ++ p.closer ∷ p.after)
          ∙ ap (λ x. x ++ (o' ∷ [])) (turned_append p.inside (p.closer ∷ p.after) ∙ ap (λ x. x ++ turned p.inside) (turned_cons p.closer p.after)))
          ∙ append_assoc ((turned p.after ++ (c' ∷ [])) ++ turned p.inside) (o' ∷ []) (turned p.before)
          ∙ append_assoc (turned p.after ++ (c' ∷ [])) (turned p.inside) (o' ∷ turned p.before)
          ∙ append_assoc (turned p.after) (c' ∷ []) (turned p.inside ++ o' ∷ turned p.before);
      opened = rw (p.kinds, turned_twice p.opener.kind) p.opened;
      kinds = sym p.kinds ∙ sym (turned_twice p.closer.kind);
      block = turned_block p.block;
    }

pub turned_length : (a : List Line) → length (turned a) ≡ length a
turned_length a = length-map (reverse a) turned_line ∙ length-reverse a

pub paired_length : (ls : List Line) (p : Paired ls) → length ls ≡ suc (suc (length p.before + length p.inside + length p.after))
paired_length ls p =
    ap length p.whole ∙ length-append p.before (p.opener ∷ (p.inside ++ p.closer ∷ p.after))
    ∙ ap (λ n. length p.before + suc n) (length-append p.inside (p.closer ∷ p.after)) ∙ omega arith

pub partner_turned : (ls : List Line) → Block ls → (i : ℕ) → i < length ls → bracket (line_at ls i).kind ≡ true → partner (turned ls) (length ls - 1 - i) ≡ length ls - 1 - partner ls i
unfolding turned_paired
partner_turned ls block i h b = by (pairs block i h b)
  where
    by : Has ls i → partner (turned ls) (length ls - 1 - i) ≡ length ls - 1 - partner ls i
    by (p, inl e) =
        let q = turned_paired ls p in
        let at : length ls - 1 - i ≡ close_at (turned ls) q = omega (arith, paired_length ls p, turned_length p.after, turned_length p.inside) in
        ap (partner (turned ls)) at ∙ partner_close (turned ls) q ∙ sym (ap (λ k. length ls - 1 - partner ls k) e ∙ ap (λ k. length ls - 1 - k) (partner_open ls p) ∙ omega (arith, paired_length ls p, turned_length p.after, turned_length p.inside))
    by (p, inr e) =
        let q = turned_paired ls p in
        let at : length ls - 1 - i ≡ open_at (turned ls) q = omega (arith, paired_length ls p, turned_length p.after, turned_length p.inside) in
        ap (partner (turned ls)) at ∙ partner_open (turned ls) q ∙ sym (ap (λ k. length ls - 1 - partner ls k) e ∙ ap (λ k. length ls - 1 - k) (partner_close ls p) ∙ omega (arith, paired_length ls p, turned_length p.after, turned_length p.inside))
