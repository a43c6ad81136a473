-- The check accepts exactly the scripts that the grammar allows.
use Rattle.std.proofs.Common.{◌≡◌, ℕ, suc, ◌+◌, ◌<◌, Bool, true, false, cond, not, ◌&&◌, ◌||◌, eqb, leb, ◌⊎◌, List, [], ◌∷◌, ◌++◌, length, Ok, Result, sym, refl, ap, ◌∙◌, subst, ap₂, inl, inr, ⊎_elim, arith}
use mathlib.Core.List.{tail}
use Rattle.std.proofs.lemmas.List.{append_assoc, append-nil, length-append, get_or_at}
use Rattle.std.proofs.lemmas.Bool.{and_parts, and_from, or_left, or_right, eqb-true, eq-eqb, ne_eqb, not_from_false, not_from_true, leb-true, le-leb, lt-ltb, ltb-true, cond-true, cases_eq, false≢true}
use Rattle.reversible.specs.Ledger.{Verdict, accepted, rejected}
use Rattle.rules.specs.Answer.{◌>>=◌, need, either}
use Rattle.rules.specs.Script.{Script, no_line, line_at, bracket, opens, closes, where_is, has_method}
use Rattle.rules.specs.Check.{nests, well_formed_at, within, after, depth, judged, calls, walked, small, checked}
use Rattle.rules.specs.Allowed.{Fits, Joined, Body, nothing, plain, pair, scope, Methods, none, method, Calls, Allowed}
use Rattle.rules.specs.declared.Line.{Line}
use Rattle.rules.specs.declared.Term.{Term}
use Rattle.rules.specs.declared.Refusal.{Refusal}
use Rattle.rules.specs.declared.Refusal.TheVariants.{Unknown, Unpaired, WrongMethod, Malformed, SelfNamed}
use Rattle.laws.proofs.Nest.{unbracketed}
use Rattle.laws.proofs.Accepted.{not_rejected, walked_on, checked_parts, Passed, judged_parts, closing_kind, neither}
use Rattle.laws.proofs.Stack.{after_opener, after_closer, after_plain}
use Rattle.laws.proofs.Inside.{closing_q}
use Rattle.laws.proofs.Methods.{where_at, where_hit, begin_is, calls_method}

-- ---- joining

pub joined_body : {ts : List Term} {d : ℕ} {a b : List Line} → Body ts d a → Body ts d b → Body ts d (a ++ b)
joined_body (nothing d) q = q
joined_body {b = b} (plain d l a h f p) q = plain d l (a ++ b) h f (joined_body p q)
joined_body {ts} {b = b} (pair d o c a r j f g p s) q =
    subst (Body ts d) (ap {B = List Line} (λ x. o ∷ x) (sym (append_assoc a (c ∷ r) b))) (pair d o c a (r ++ b) j f g p (joined_body s q))
joined_body {ts} {b = b} (scope d o c a r j k f g p s) q =
    subst (Body ts d) (ap {B = List Line} (λ x. o ∷ x) (sym (append_assoc a (c ∷ r) b))) (scope d o c a (r ++ b) j k f g p (joined_body s q))

pub joined_methods : {ts : List Term} {a b : List Line} → Methods ts a → Methods ts b → Methods ts (a ++ b)
joined_methods none q = q
joined_methods {ts} {b = b} (method s e a r k l m f g p rest) q =
    subst (Methods ts) (ap {B = List Line} (λ x. s ∷ x) (sym (append_assoc a (e ∷ r) b))) (method s e a (r ++ b) k l m f g p (joined_methods rest q))

-- ---- from the check to the grammar

-- a line that opens a pair inside a method
abbrev Inner : Line → Type 0
Inner o = (o.kind ≡ 4) ⊎ ((o.kind ≡ 6) ⊎ (o.kind ≡ 8))

-- the lines read so far, while the openers, the last first, are not yet closed
data Read (ts : List Term) : List Line → List Line → Type 0 where
  outside : (pre : List Line) → Methods ts pre → Read ts [] pre
  begun : (b : Line) (pre body : List Line) → b.kind ≡ 0 → Fits ts 0 b → Methods ts pre → Body ts 0 body → Read ts (b ∷ []) (pre ++ b ∷ body)
  deeper : (o p : Line) (os pre body : List Line) → Inner o → Fits ts (depth (p ∷ os)) o → Read ts (p ∷ os) pre → Body ts (depth (o ∷ p ∷ os)) body → Read ts (o ∷ p ∷ os) (pre ++ o ∷ body)

begin_depth : (b : Line) → b.kind ≡ 0 → depth (b ∷ []) ≡ 0
begin_depth b k = rw k

extended : (ts : List Term) (o : Line) (os pre c : List Line) → Read ts (o ∷ os) pre → Body ts (depth (o ∷ os)) c → Read ts (o ∷ os) (pre ++ c)
extended ts o os pre c (begun _ front body k f m p) q =
    subst (Read ts (o ∷ [])) (sym (append_assoc front (o ∷ body) c)) (begun o front (body ++ c) k f m (joined_body p (subst (λ d. Body ts d c) (begin_depth o k) q)))
extended ts o os pre c (deeper _ p os' front body i f r b) q =
    subst (Read ts (o ∷ os)) (sym (append_assoc front (o ∷ body) c)) (deeper o p os' front (body ++ c) i f r (joined_body b q))

inner_kind : (l : Line) → opens l.kind ≡ true → (l.kind ≡ 0 → ⊥) → Inner l
inner_kind l h n =
    ⊎_elim inl (λ n4. inr (⊎_elim inl (λ n6. inr (⊎_elim (λ e. e) (λ n8. absurd (false≢true (sym (none_else l.kind n n4 n6 n8) ∙ h))) (cases_eq l.kind 8))) (cases_eq l.kind 6))) (cases_eq l.kind 4)
  where
    none_else : (k : ℕ) → (k ≡ 0 → ⊥) → (k ≡ 4 → ⊥) → (k ≡ 6 → ⊥) → (k ≡ 8 → ⊥) → opens k ≡ false
    none_else k a b c d = grind arith

fitting : (sc : Script) (k : ℕ) (os : List Line) (l : Line) → Passed sc k os l → Fits sc.terms (depth os) l
fitting sc k os l p = record { filled = p.filled; formed = p.formed; separate = p.separate }

opening : (ts : List Term) (os pre : List Line) (l : Line) → Read ts os pre → nests os l ≡ true → opens l.kind ≡ true → Fits ts (depth os) l → Read ts (l ∷ os) (pre ++ l ∷ [])
opening ts [] pre l (outside _ m) n h f = begun l pre [] (eqb-true l.kind 0 n) f m (nothing 0)
opening ts (o ∷ os) pre l r n h f =
    deeper l o os pre [] (inner_kind l h (λ k. false≢true (rw k at n))) f r (nothing (depth (l ∷ o ∷ os)))

-- the pair that a closer ends, as lines inside what was open before
ended_pair : (ts : List Term) (o l : Line) (d : ℕ) (body : List Line) → Inner o → suc o.kind ≡ l.kind → Fits ts d o
    → Fits ts (cond (eqb o.kind 8) (suc d) d) l → Body ts (cond (eqb o.kind 8) (suc d) d) body → Body ts d (o ∷ (body ++ l ∷ []))
ended_pair ts o l d body (inl k) s f g b =
    let h : l.kind ≡ 5 = omega arith in
    pair d o l body [] (inl (k, h)) f (subst (λ k. Fits ts (cond (eqb k 8) (suc d) d) l) k g) (subst (λ k. Body ts (cond (eqb k 8) (suc d) d) body) k b) (nothing d)
ended_pair ts o l d body (inr (inl k)) s f g b =
    let h : l.kind ≡ 7 = omega arith in
    pair d o l body [] (inr (k, h)) f (subst (λ k. Fits ts (cond (eqb k 8) (suc d) d) l) k g) (subst (λ k. Body ts (cond (eqb k 8) (suc d) d) body) k b) (nothing d)
ended_pair ts o l d body (inr (inr k)) s f g b =
    let h : l.kind ≡ 9 = omega arith in
    scope d o l body [] k h f (subst (λ k. Fits ts (cond (eqb k 8) (suc d) d) l) k g) (subst (λ k. Body ts (cond (eqb k 8) (suc d) d) body) k b) (nothing d)

closing : (ts : List Term) (os pre : List Line) (l : Line) → Read ts os pre → nests os l ≡ true → closes l.kind ≡ true → Fits ts (depth os) l → Read ts (tail os) (pre ++ l ∷ [])
closing ts [] pre l r n h f = absurd (false≢true (ap closes (sym (eqb-true l.kind 0 n)) ∙ h))
closing ts (o ∷ os) pre l (begun _ front body k g m b) n h f =
    let e : suc o.kind ≡ l.kind = closing_kind o [] l n h in
    let one : l.kind ≡ 1 = omega arith in
    subst (Read ts []) (sym (append_assoc front (o ∷ body) (l ∷ [])))
    (outside (front ++ o ∷ (body ++ l ∷ [])) (joined_methods m (method o l body [] k one (closing_q o [] l n one) g (subst (λ d. Fits ts d l) (begin_depth o k) f) b none)))
closing ts (o ∷ os) pre l (deeper _ p os' front body i g r b) n h f =
    subst (Read ts (p ∷ os')) (sym (append_assoc front (o ∷ body) (l ∷ [])))
    (extended ts p os' front (o ∷ (body ++ l ∷ [])) r (ended_pair ts o l (depth (p ∷ os')) body i (closing_kind o (p ∷ os') l n h) g f b))

staying : (ts : List Term) (os pre : List Line) (l : Line) → Read ts os pre → nests os l ≡ true → bracket l.kind ≡ false → Fits ts (depth os) l → Read ts os (pre ++ l ∷ [])
staying ts [] pre l r n h f = absurd (false≢true (sym h ∙ ap bracket (eqb-true l.kind 0 n)))
staying ts (o ∷ os) pre l r n h f = extended ts o os pre (l ∷ []) r (plain (depth (o ∷ os)) l [] h f (nothing (depth (o ∷ os))))

read_line : (ts : List Term) (os pre : List Line) (l : Line) → Read ts os pre → nests os l ≡ true → Fits ts (depth os) l → Read ts (after os l) (pre ++ l ∷ [])
read_line ts os pre l r n f = by (opens l.kind) (closes l.kind) refl refl
  where
    by : (o c : Bool) → opens l.kind ≡ o → closes l.kind ≡ c → Read ts (cond o (l ∷ os) (cond c (tail os) os)) (pre ++ l ∷ [])
    by true c e h = opening ts os pre l r n e f
    by false true e h = closing ts os pre l r n h f
    by false false e h = staying ts os pre l r n (neither l.kind e h) f

read_all : (sc : Script) (k : ℕ) (os pre ls : List Line) → Read sc.terms os pre → walked sc k os ls ≡ accepted → Methods sc.terms (pre ++ ls)
read_all sc k [] pre [] (outside _ m) h = subst (Methods sc.terms) (sym (append-nil pre)) m
read_all sc k (o ∷ os) pre [] r h = not_rejected h
read_all sc k os pre (l ∷ ls) r h =
    let (here, rest) = walked_on sc k os l ls h in
    let p = judged_parts sc k os l here in
    subst (Methods sc.terms) (append_assoc pre (l ∷ []) ls)
    (read_all sc (suc k) (after os l) (pre ++ l ∷ []) ls (read_line sc.terms os pre l r p.nested (fitting sc k os l p)) rest)

pub allowed_from : (sc : Script) → checked sc ≡ accepted → Allowed sc
allowed_from sc ok =
    let (sizes, walk) = checked_parts sc ok in
    let (few, short) = and_parts (leb (length sc.lines) 256) (leb (length sc.terms) 1024) sizes in
    record {
      lines = leb-true (length sc.lines) 256 few;
      terms = leb-true (length sc.terms) 1024 short;
      methods = read_all sc 0 [] [] sc.lines (outside [] none) walk;
      once = λ q i j (hi, ki, qi) (hj, kj, qj).
          sym (begin_is sc ok i hi ki) ∙ ap (λ x. where_is 0 x sc.lines) (qi ∙ sym qj) ∙ begin_is sc ok j hj kj;
      called = λ k h c.
          let q = (line_at sc.lines k).q in
          let inside = ltb-true (where_is 0 q sc.lines) (length sc.lines) (calls_method sc ok k h c) in
          let (kind, name) = where_at 0 q sc.lines inside in
          (where_is 0 q sc.lines, (inside, kind, name));
    }

-- ---- from the grammar to the check

need_ok : {B : Type 0} (t : Bool) (r : Refusal) (f : Unit {0} → Result B Refusal) → t ≡ true → (need t r >>= f) ≡ f tt
unfolding ◌>>=◌ need
need_ok true r f e = refl
need_ok false r f e = absurd (false≢true e)

judged_ok : (sc : Script) (k : ℕ) (os : List Line) (l : Line) → Passed sc k os l → judged sc k os l ≡ Ok tt
unfolding need
judged_ok sc k os l p =
    need_ok _ Unknown _ p.filled ∙ need_ok _ Unpaired _ p.nested ∙ need_ok _ WrongMethod _ p.once ∙ need_ok _ Malformed _ p.formed ∙ ap (λ t. need t SelfNamed) p.separate

-- a line that nests, where d locals are open, is passed over
on_line : (sc : Script) (k d : ℕ) (os : List Line) (l : Line) (ls : List Line) → depth os ≡ d → nests os l ≡ true
    → (not (eqb l.kind 0) || eqb (where_is 0 l.q sc.lines) k) ≡ true → Fits sc.terms d l → walked sc k os (l ∷ ls) ≡ walked sc (suc k) (after os l) ls
on_line sc k d os l ls e n o f =
    let p : Passed sc k os l = record { filled = f.filled; nested = n; once = o; formed = subst (λ d. well_formed_at sc.terms d l ≡ true) (sym e) f.formed; separate = f.separate } in
    ap (λ r. either r (λ _. walked sc (suc k) (after os l) ls) (λ r. rejected r k)) (judged_ok sc k os l p)

nest_inside : (o : Line) (os : List Line) (l : Line) → (l.kind ≡ 0 → ⊥) → closes l.kind ≡ false → nests (o ∷ os) l ≡ true
nest_inside o os l n c = and_from (not (eqb l.kind 0)) _ (not_from_false _ (ne_eqb l.kind 0 n)) (or_left (not (closes l.kind)) _ (not_from_false _ c))

nest_close : (o : Line) (os : List Line) (l : Line) → suc o.kind ≡ l.kind → (l.kind ≡ 1 → o.q ≡ l.q) → nests (o ∷ os) l ≡ true
nest_close o os l s q =
    and_from (not (eqb l.kind 0)) _ (not_from_false _ (ne_eqb l.kind 0 (λ z. omega arith)))
    (or_right (not (closes l.kind)) _ (and_from (eqb (suc o.kind) l.kind) _ (eq-eqb (suc o.kind) l.kind s) (by (eqb l.kind 1) refl)))
  where
    by : (b : Bool) → eqb l.kind 1 ≡ b → (not b || eqb o.q l.q) ≡ true
    by true e = eq-eqb o.q l.q (q (eqb-true l.kind 1 e))
    by false e = refl

no_begin : (sc : Script) (k : ℕ) (l : Line) → (l.kind ≡ 0 → ⊥) → (not (eqb l.kind 0) || eqb (where_is 0 l.q sc.lines) k) ≡ true
no_begin sc k l n = or_left (not (eqb l.kind 0)) _ (not_from_false _ (ne_eqb l.kind 0 n))

module _ (sc : Script) where
  -- a pair inside a method, once its lines and what lies between them are passed over
  over_pair : (k d e : ℕ) (p : Line) (os : List Line) (o c : Line) (inner rest : List Line) → depth (p ∷ os) ≡ d → depth (o ∷ p ∷ os) ≡ e
      → (o.kind ≡ 0 → ⊥) → opens o.kind ≡ true → closes o.kind ≡ false → suc o.kind ≡ c.kind → opens c.kind ≡ false → closes c.kind ≡ true → (c.kind ≡ 1 → ⊥)
      → Fits sc.terms d o → Fits sc.terms e c
      → walked sc (suc k) (o ∷ p ∷ os) (inner ++ c ∷ rest) ≡ walked sc (suc k + length inner) (o ∷ p ∷ os) (c ∷ rest)
      → walked sc k (p ∷ os) (o ∷ (inner ++ c ∷ rest)) ≡ walked sc (k + suc (length inner + 1)) (p ∷ os) rest
  over_pair k d e p os o c inner rest deep deep' n op cl s cop ccl m f g between =
      on_line sc k d (p ∷ os) o (inner ++ c ∷ rest) deep (nest_inside p os o n cl) (no_begin sc k o n) f
      ∙ ap (λ x. walked sc (suc k) x (inner ++ c ∷ rest)) (after_opener (p ∷ os) o op)
      ∙ between
      ∙ on_line sc (suc k + length inner) e (o ∷ p ∷ os) c rest deep' (nest_close o (p ∷ os) c s (λ z. absurd (m z))) (no_begin sc (suc k + length inner) c (λ z. omega arith)) g
      ∙ ap₂ (λ j x. walked sc j x rest) (sum k (length inner)) (after_closer (o ∷ p ∷ os) c cop ccl)
    where
      sum : (k n : ℕ) → suc (suc k + n) ≡ k + suc (n + 1)
      sum k n = omega arith

  over_body : {d : ℕ} {body : List Line} → Body sc.terms d body → (k : ℕ) (p : Line) (os rest : List Line) → depth (p ∷ os) ≡ d
      → walked sc k (p ∷ os) (body ++ rest) ≡ walked sc (k + length body) (p ∷ os) rest
  over_body (nothing d) k p os rest deep = let e : k ≡ k + 0 = omega arith in ap (λ j. walked sc j (p ∷ os) rest) e
  over_body (plain d l a h f b) k p os rest deep =
      let (o, c) = unbracketed l.kind h in
      let n : l.kind ≡ 0 → ⊥ = λ z. false≢true (sym h ∙ ap bracket z) in
      let e : suc k + length a ≡ k + suc (length a) = omega arith in
      on_line sc k d (p ∷ os) l (a ++ rest) deep (nest_inside p os l n c) (no_begin sc k l n) f
      ∙ ap (λ x. walked sc (suc k) x (a ++ rest)) (after_plain (p ∷ os) l o c)
      ∙ over_body b (suc k) p os rest deep
      ∙ ap (λ j. walked sc j (p ∷ os) rest) e
  over_body (pair d o c a r j f g b s) k p os rest deep = by j (over_body b (suc k) o (p ∷ os) (c ∷ (r ++ rest))) (over_body s (k + suc (length a + 1)) p os rest deep)
    where
      sum : (k m n t : ℕ) → t ≡ m + suc n → k + suc (m + 1) + n ≡ k + suc t
      sum k m n t e = omega arith

      onward : (depth (o ∷ p ∷ os) ≡ d → walked sc (suc k) (o ∷ p ∷ os) (a ++ c ∷ (r ++ rest)) ≡ walked sc (suc k + length a) (o ∷ p ∷ os) (c ∷ (r ++ rest)))
          → walked sc (k + suc (length a + 1)) (p ∷ os) (r ++ rest) ≡ walked sc (k + suc (length a + 1) + length r) (p ∷ os) rest
          → (i : ℕ) → o.kind ≡ i → c.kind ≡ suc i → (i ≡ 0 → ⊥) → (i ≡ 8 → ⊥) → opens i ≡ true → closes i ≡ false → opens (suc i) ≡ false → closes (suc i) ≡ true
          → walked sc k (p ∷ os) ((o ∷ (a ++ c ∷ r)) ++ rest) ≡ walked sc (k + length (o ∷ (a ++ c ∷ r))) (p ∷ os) rest
      onward between rests i ok ck n0 n8 op cl cop ccl =
          let same : depth (o ∷ p ∷ os) ≡ d = rw (ne_eqb o.kind 8 (λ z. n8 (sym ok ∙ z))) deep in
          ap (λ x. walked sc k (p ∷ os) (o ∷ x)) (append_assoc a (c ∷ r) rest)
          ∙ over_pair k d d p os o c a (r ++ rest) deep same (λ z. n0 (sym ok ∙ z)) (ap opens ok ∙ op) (ap closes ok ∙ cl) (ap suc ok ∙ sym ck) (ap opens ck ∙ cop) (ap closes ck ∙ ccl)
          (λ z. omega arith) f g (between same)
          ∙ rests
          ∙ ap (λ t. walked sc t (p ∷ os) rest) (sum k (length a) (length r) (length (a ++ c ∷ r)) (length-append a (c ∷ r)))

      by : Joined o c → (depth (o ∷ p ∷ os) ≡ d → walked sc (suc k) (o ∷ p ∷ os) (a ++ c ∷ (r ++ rest)) ≡ walked sc (suc k + length a) (o ∷ p ∷ os) (c ∷ (r ++ rest)))
          → walked sc (k + suc (length a + 1)) (p ∷ os) (r ++ rest) ≡ walked sc (k + suc (length a + 1) + length r) (p ∷ os) rest
          → walked sc k (p ∷ os) ((o ∷ (a ++ c ∷ r)) ++ rest) ≡ walked sc (k + length (o ∷ (a ++ c ∷ r))) (p ∷ os) rest
      by (inl (ok, ck)) between rests = onward between rests 4 ok ck (λ z. omega arith) (λ z. omega arith) refl refl refl refl
      by (inr (ok, ck)) between rests = onward between rests 6 ok ck (λ z. omega arith) (λ z. omega arith) refl refl refl refl
  over_body (scope d o c a r ok ck f g b s) k p os rest deep =
      let same : depth (o ∷ p ∷ os) ≡ suc d = rw ok (ap suc deep) in
      ap (λ x. walked sc k (p ∷ os) (o ∷ x)) (append_assoc a (c ∷ r) rest)
      ∙ over_pair k d (suc d) p os o c a (r ++ rest) deep same (λ z. omega arith) (ap opens ok) (ap closes ok) (ap suc ok ∙ sym ck) (ap opens ck) (ap closes ck)
      (λ z. omega arith) f g (over_body b (suc k) o (p ∷ os) (c ∷ (r ++ rest)) same)
      ∙ over_body s (k + suc (length a + 1)) p os rest deep
      ∙ ap (λ t. walked sc t (p ∷ os) rest) (sum k (length a) (length r) (length (a ++ c ∷ r)) (length-append a (c ∷ r)))
    where
      sum : (k m n t : ℕ) → t ≡ m + suc n → k + suc (m + 1) + n ≡ k + suc t
      sum k m n t e = omega arith

  module _ (all : Allowed sc) where
    -- a begin is the first line that begins its method
    begins_first : (pre : List Line) (b : Line) (rest : List Line) → sc.lines ≡ pre ++ b ∷ rest → b.kind ≡ 0
        → (not (eqb b.kind 0) || eqb (where_is 0 b.q sc.lines) (length pre)) ≡ true
    begins_first pre b rest e k =
        let n = length pre in
        let at : line_at sc.lines n ≡ b = ap (λ ls. line_at ls n) e ∙ get_or_at pre b rest no_line n refl in
        let kind : (line_at sc.lines n).kind ≡ 0 = ap (λ l. l.kind) at ∙ k in
        let name : (line_at sc.lines n).q ≡ b.q = ap (λ l. l.q) at in
        let inside : n < length sc.lines = omega (arith, ap length e, length-append pre (b ∷ rest)) in
        let low = where_hit 0 b.q sc.lines n inside kind name in
        let first : where_is 0 b.q sc.lines < length sc.lines = omega arith in
        let (wk, wq) = where_at 0 b.q sc.lines first in
        or_right (not (eqb b.kind 0)) _ (eq-eqb _ n (all.once b.q (where_is 0 b.q sc.lines) n (first, wk, wq) (inside, kind, name)))

    over_methods : {ms : List Line} → Methods sc.terms ms → (pre : List Line) → sc.lines ≡ pre ++ ms → walked sc (length pre) [] ms ≡ calls sc.lines 0 sc.lines
    over_methods none pre e = refl
    over_methods (method b c body rest bk ck same f g p ms) pre e =
        let n = length pre in
        let flat : depth (b ∷ []) ≡ 0 = begin_depth b bk in
        let next : sc.lines ≡ (pre ++ b ∷ (body ++ c ∷ [])) ++ rest =
        e ∙ ap (λ x. pre ++ b ∷ x) (sym (append_assoc body (c ∷ []) rest)) ∙ sym (append_assoc pre (b ∷ (body ++ c ∷ [])) rest) in
        on_line sc n 0 [] b (body ++ c ∷ rest) refl (eq-eqb b.kind 0 bk) (begins_first pre b (body ++ c ∷ rest) e bk) f
        ∙ ap (λ x. walked sc (suc n) x (body ++ c ∷ rest)) (after_opener [] b (ap opens bk))
        ∙ over_body p (suc n) b [] (c ∷ rest) flat
        ∙ on_line sc (suc n + length body) 0 (b ∷ []) c rest flat (nest_close b [] c (ap suc bk ∙ sym ck) (λ _. same)) (no_begin sc (suc n + length body) c (λ z. omega arith)) g
        ∙ ap₂ (λ j x. walked sc j x rest) (sum n (length body) (length (body ++ c ∷ [])) (length (pre ++ b ∷ (body ++ c ∷ []))) (length-append body (c ∷ [])) (length-append pre (b ∷ (body ++ c ∷ [])))) (after_closer (b ∷ []) c (ap opens ck) (ap closes ck))
        ∙ over_methods ms (pre ++ b ∷ (body ++ c ∷ [])) next
      where
        sum : (n m t u : ℕ) → t ≡ m + 1 → u ≡ n + suc t → suc (suc n + m) ≡ u
        sum n m t u e f = omega arith

  calls_from : (k : ℕ) (ls : List Line) → ((i : ℕ) → i < length ls → within 16 17 (line_at ls i).kind ≡ true → has_method sc.lines (line_at ls i).q ≡ true) → calls sc.lines k ls ≡ accepted
  calls_from k [] h = refl
  calls_from k (l ∷ ls) h =
      ap (λ b. elim b as (λ _. Verdict Refusal) [ true ↦ rejected WrongMethod k | false ↦ calls sc.lines (suc k) ls ]) (by (within 16 17 l.kind) refl)
      ∙ calls_from (suc k) ls (λ i n w. h (suc i) (omega arith) w)
    where
      by : (b : Bool) → within 16 17 l.kind ≡ b → (b && not (has_method sc.lines l.q)) ≡ false
      by true e = not_from_true _ (h 0 (omega arith) e)
      by false e = refl

pub within_calls : (l : Line) → within 16 17 l.kind ≡ true → Calls l
within_calls l w =
    let (a, b) = and_parts (leb 16 l.kind) (leb l.kind 17) w in
    let low = leb-true 16 l.kind a in
    let high = leb-true l.kind 17 b in
    ⊎_elim inl (λ n. inr (omega arith)) (cases_eq l.kind 16)

pub accepted_from : (sc : Script) → Allowed sc → checked sc ≡ accepted
accepted_from sc all =
    cond-true (small sc) _ _ (and_from (leb (length sc.lines) 256) _ (le-leb (length sc.lines) 256 all.lines) (le-leb (length sc.terms) 1024 all.terms))
    ∙ over_methods sc all all.methods [] refl
    ∙ calls_from sc 0 sc.lines has
  where
    has : (i : ℕ) → i < length sc.lines → within 16 17 (line_at sc.lines i).kind ≡ true → has_method sc.lines (line_at sc.lines i).q ≡ true
    has i h w =
        let (j, (inside, kind, name)) = all.called i h (within_calls (line_at sc.lines i) w) in
        let low = where_hit 0 (line_at sc.lines i).q sc.lines j inside kind name in
        lt-ltb (where_is 0 (line_at sc.lines i).q sc.lines) (length sc.lines) (omega arith)
