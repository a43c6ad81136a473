-- A script that is allowed is allowed when it is turned: the grammar reads the same from the other end.
use Rattle.std.proofs.Common.{◌≡◌, ℕ, suc, ◌-◌, ◌<◌, Bool, true, false, cond, not, ◌&&◌, ◌||◌, eqb, ltb, leb, List, [], ◌∷◌, ◌++◌, length, sym, refl, ap, ◌∙◌, subst, inl, inr, ⊎_elim, arith}
use Rattle.std.proofs.lemmas.List.{append_assoc}
use Rattle.std.proofs.lemmas.Bool.{and_parts, and_from, or_cases, or_left, leb-true, ltb-true, eqb-true, ne_eqb, not_from_false, false≢true}
use Rattle.reversible.specs.Ledger.{accepted}
use Rattle.rules.specs.Script.{Script, line_at, is_none, alike, turned_kind, turned_line, turned, turned_script, bracket, where_is, has_method, terms_of}
use Rattle.rules.specs.Check.{known, sort, reaches, names, within, Form, form_of, uses_x, uses_y, among, expression_form, well_filled, well_formed_at, apart, checked}
use Rattle.rules.specs.Allowed.{Fits, Joined, Body, nothing, plain, pair, scope, Methods, none, method, Begins, Calls}
use Rattle.rules.specs.declared.Line.{Line}
use Rattle.rules.specs.declared.Term.{Term}
use Rattle.rules.specs.declared.Place.{Place}
use Rattle.rules.specs.declared.Place.TheVariants.{None, M, R, N, F, V}
use Rattle.laws.proofs.Turning.{each_at, turned_twice}
use Rattle.laws.proofs.Nest.{bracket_turned, turned_append, turned_cons, turned_length}
use Rattle.laws.proofs.MirrorState.{line_turned}
use Rattle.laws.proofs.Methods.{where_at, end_is, calls_method}
use Rattle.laws.proofs.MirrorMachine.{has_mirrored}
use Rattle.laws.proofs.Grammar.{joined_body, joined_methods, allowed_from, accepted_from}

-- ---- kinds

form_turned : (k : ℕ) → k < 18 → form_of (turned_kind k) ≡ form_of k
form_turned k h = each_at (λ k. form_of (turned_kind k) ≡ form_of k) 0 18 k (refl, (refl, (refl, (refl, (refl, (refl, (refl, (refl, (refl, (refl, (refl, (refl, (refl, (refl, (refl, (refl, (refl, (refl, tt)))))))))))))))))) (omega arith) (omega arith)

low_turned : (k : ℕ) → k < 18 → leb (turned_kind k) 17 ≡ true
low_turned k h = each_at (λ k. leb (turned_kind k) 17 ≡ true) 0 18 k (refl, (refl, (refl, (refl, (refl, (refl, (refl, (refl, (refl, (refl, (refl, (refl, (refl, (refl, (refl, (refl, (refl, (refl, tt)))))))))))))))))) (omega arith) (omega arith)

within_turned : (k : ℕ) → k < 18 → within 12 13 (turned_kind k) ≡ within 12 13 k
within_turned k h = each_at (λ k. within 12 13 (turned_kind k) ≡ within 12 13 k) 0 18 k (refl, (refl, (refl, (refl, (refl, (refl, (refl, (refl, (refl, (refl, (refl, (refl, (refl, (refl, (refl, (refl, (refl, (refl, tt)))))))))))))))))) (omega arith) (omega arith)

from_turned : (k j : ℕ) → turned_kind k ≡ j → k ≡ turned_kind j
from_turned k j e = sym (turned_twice k) ∙ ap turned_kind e

-- ---- lines

-- what `well_filled` asks beside the kind
rest_filled : Form → Line → Bool
rest_filled f l = known l.x && (known l.y && (leb l.q 31 && ((f.method || eqb l.q 0) && ((uses_x f.sorts || is_none l.x) && ((uses_y f.sorts || is_none l.y) && (f.expression || (eqb l.first 0 && eqb l.count 0)))))))

low_kind : (l : Line) → well_filled l ≡ true → l.kind < 18
low_kind l h = let k = leb-true l.kind 17 (and_parts (leb l.kind 17) _ h).0 in omega arith

filled_turned : (l : Line) → well_filled l ≡ true → well_filled (turned_line l) ≡ true
unfolding rest_filled
filled_turned l h =
    let rest = (and_parts (leb l.kind 17) (rest_filled (form_of l.kind) l) h).1 in
    let k = low_kind l h in
    and_from (leb (turned_kind l.kind) 17) (rest_filled (form_of (turned_kind l.kind)) l) (low_turned l.kind k) (subst (λ f. rest_filled f l ≡ true) (sym (form_turned l.kind k)) rest)

apart_turned : (ts : List Term) (l : Line) → l.kind < 18 → apart ts l ≡ true → apart ts (turned_line l) ≡ true
apart_turned ts l k h =
    let (a, b) = and_parts (is_none l.x || not (names l.x (terms_of ts l))) (not (within 12 13 l.kind) || not (alike l.x l.y)) h in
    and_from (is_none l.x || not (names l.x (terms_of ts l))) (not (within 12 13 (turned_kind l.kind)) || not (alike l.x l.y)) a
    (subst (λ t. (not t || not (alike l.x l.y)) ≡ true) (sym (within_turned l.kind k)) b)

-- the four parts of `well_formed_at`, with the form of the kind in hand
record Formed (ts : List Term) (d : ℕ) (kind : ℕ) (f : Form) (l : Line) : Type 0 where
  sorts : among (sort l.x) (sort l.y) f.sorts ≡ true
  reached : (reaches d l.x && reaches d l.y) ≡ true
  room : (not (eqb kind 8) || ltb d 16) ≡ true
  expression : (not f.expression || expression_form ts (cond (eqb kind 9) (d - 1) d) l) ≡ true

formed_parts : (ts : List Term) (d : ℕ) (l : Line) → well_formed_at ts d l ≡ true → Formed ts d l.kind (form_of l.kind) l
formed_parts ts d l h =
    let (a, h₁) = and_parts (among (sort l.x) (sort l.y) (form_of l.kind).sorts) _ h in
    let (b, h₂) = and_parts (reaches d l.x && reaches d l.y) _ h₁ in
    let (c, e) = and_parts (not (eqb l.kind 8) || ltb d 16) _ h₂ in
    record { sorts = a; reached = b; room = c; expression = e }

formed_turned : (ts : List Term) (d : ℕ) (l : Line) → l.kind < 18 → Formed ts d (turned_kind l.kind) (form_of l.kind) l → well_formed_at ts d (turned_line l) ≡ true
formed_turned ts d l k fit =
    let G : Formed ts d (turned_kind l.kind) (form_of (turned_kind l.kind)) l = subst (λ f. Formed ts d (turned_kind l.kind) f l) (sym (form_turned l.kind k)) fit in
    and_from _ _ G.sorts (and_from _ _ G.reached (and_from _ _ G.room G.expression))

-- a line other than local and delocal stands turned where it stood
fits_turned : (ts : List Term) (d : ℕ) (l : Line) → (l.kind ≡ 8 → ⊥) → (l.kind ≡ 9 → ⊥) → Fits ts d l → Fits ts d (turned_line l)
fits_turned ts d l n8 n9 fit =
    let k = low_kind l fit.filled in
    let G = formed_parts ts d l fit.formed in
    let t8 : eqb (turned_kind l.kind) 8 ≡ false = ne_eqb _ 8 (λ e. n9 (from_turned l.kind 8 e)) in
    let t9 : eqb (turned_kind l.kind) 9 ≡ false = ne_eqb _ 9 (λ e. n8 (from_turned l.kind 9 e)) in
    let plain9 : eqb l.kind 9 ≡ false = ne_eqb l.kind 9 n9 in
    record {
      filled = filled_turned l fit.filled;
      formed = formed_turned ts d l k (record {
        sorts = G.sorts;
        reached = G.reached;
        room = or_left (not (eqb (turned_kind l.kind) 8)) _ (not_from_false _ t8);
        expression = subst (λ b. (not (form_of l.kind).expression || expression_form ts (cond b (d - 1) d) l) ≡ true) (plain9 ∙ sym t9) G.expression;
      });
      separate = apart_turned ts l k fit.separate;
    }

among_none : (x y : Place) → among (sort x) (sort y) ((0, 0) ∷ []) ≡ true → (d : ℕ) → (reaches d x && reaches d y) ≡ true
among_none x y h d =
    let (a, b) = ⊎_elim (λ t. and_parts (eqb (sort x) 0) (eqb (sort y) 0) t) (λ f. absurd (false≢true f)) (or_cases (eqb (sort x) 0 && eqb (sort y) 0) false h) in
    and_from (reaches d x) (reaches d y) (reaches_none x (eqb-true (sort x) 0 a)) (reaches_none y (eqb-true (sort y) 0 b))
  where
    reaches_none : (p : Place) → sort p ≡ 0 → reaches d p ≡ true
    reaches_none None e = refl
    reaches_none (M i) e = absurd (omega arith)
    reaches_none (R i) e = absurd (omega arith)
    reaches_none (N i) e = absurd (omega arith)
    reaches_none (F i) e = absurd (omega arith)
    reaches_none (V i) e = absurd (omega arith)

-- a local that stands where d are open is, turned, a delocal where one more is open
local_turned : (ts : List Term) (d : ℕ) (o : Line) → o.kind ≡ 8 → Fits ts d o → Fits ts (suc d) (turned_line o)
local_turned ts d o k fit =
    let G : Formed ts d 8 (form_of 8) o = subst (λ j. Formed ts d j (form_of j) o) k (formed_parts ts d o fit.formed) in
    let e : d ≡ suc d - 1 = omega arith in
    record {
      filled = filled_turned o fit.filled;
      formed = formed_turned ts (suc d) o (low_kind o fit.filled) (subst (λ j. Formed ts (suc d) (turned_kind j) (form_of j) o) (sym k) (record {
        sorts = G.sorts;
        reached = among_none o.x o.y G.sorts (suc d);
        room = refl;
        expression = subst (λ n. expression_form ts n o ≡ true) e G.expression;
      }));
      separate = apart_turned ts o (low_kind o fit.filled) fit.separate;
    }

-- and the other way round, where there was room for the local
delocal_turned : (ts : List Term) (d : ℕ) (c : Line) → c.kind ≡ 9 → ltb d 16 ≡ true → Fits ts (suc d) c → Fits ts d (turned_line c)
delocal_turned ts d c k room fit =
    let G : Formed ts (suc d) 9 (form_of 9) c = subst (λ j. Formed ts (suc d) j (form_of j) c) k (formed_parts ts (suc d) c fit.formed) in
    let e : suc d - 1 ≡ d = omega arith in
    record {
      filled = filled_turned c fit.filled;
      formed = formed_turned ts d c (low_kind c fit.filled) (subst (λ j. Formed ts d (turned_kind j) (form_of j) c) (sym k) (record {
        sorts = G.sorts;
        reached = among_none c.x c.y G.sorts d;
        room = room;
        expression = subst (λ n. expression_form ts n c ≡ true) e G.expression;
      }));
      separate = apart_turned ts c (low_kind c fit.filled) fit.separate;
    }

local_room : (ts : List Term) (d : ℕ) (o : Line) → o.kind ≡ 8 → Fits ts d o → ltb d 16 ≡ true
local_room ts d o k fit = subst (λ j. (not (eqb j 8) || ltb d 16) ≡ true) k (formed_parts ts d o fit.formed).room

-- ---- bodies and methods

turned_pair : (o c : Line) (a b : List Line) → turned (o ∷ (a ++ c ∷ b)) ≡ turned b ++ (turned_line c ∷ (turned a ++ (turned_line o ∷ [])))
turned_pair o c a b =
    turned_cons o (a ++ c ∷ b)
    ∙ ap (λ x. x ++ (turned_line o ∷ [])) (turned_append a (c ∷ b) ∙ ap (λ x. x ++ turned a) (turned_cons c b))
    ∙ append_assoc (turned b ++ (turned_line c ∷ [])) (turned a) (turned_line o ∷ [])
    ∙ append_assoc (turned b) (turned_line c ∷ []) (turned a ++ (turned_line o ∷ []))

other_kind : (l : Line) (k j : ℕ) → l.kind ≡ k → (k ≡ j → ⊥) → l.kind ≡ j → ⊥
other_kind l k j e n z = n (sym e ∙ z)

turned_body : {ts : List Term} {d : ℕ} {a : List Line} → Body ts d a → Body ts d (turned a)
turned_body (nothing d) = nothing d
turned_body {ts} (plain d l a h f b) =
    let no : (k : ℕ) → bracket k ≡ true → l.kind ≡ k → ⊥ = λ k t e. false≢true (sym h ∙ ap bracket e ∙ t) in
    subst (Body ts d) (sym (turned_cons l a))
    (joined_body (turned_body b) (plain d (turned_line l) [] (bracket_turned l.kind ∙ h) (fits_turned ts d l (no 8 refl) (no 9 refl) f) (nothing d)))
turned_body {ts} (pair d o c a r j f g b s) = by j (turned_body b) (turned_body s)
  where
    on : (i : ℕ) → o.kind ≡ i → c.kind ≡ suc i → (i ≡ 8 → ⊥) → (i ≡ 9 → ⊥) → (suc i ≡ 8 → ⊥) → (suc i ≡ 9 → ⊥) → Joined (turned_line c) (turned_line o) → Body ts d (turned a) → Body ts d (turned r) → Body ts d (turned (o ∷ (a ++ c ∷ r)))
    on i ok ck a8 a9 b8 b9 j b' s' =
        subst (Body ts d) (sym (turned_pair o c a r))
        (joined_body s' (pair d (turned_line c) (turned_line o) (turned a) [] j
        (fits_turned ts d c (other_kind c (suc i) 8 ck b8) (other_kind c (suc i) 9 ck b9) g) (fits_turned ts d o (other_kind o i 8 ok a8) (other_kind o i 9 ok a9) f) b' (nothing d)))

    by : Joined o c → Body ts d (turned a) → Body ts d (turned r) → Body ts d (turned (o ∷ (a ++ c ∷ r)))
    by (inl (ok, ck)) b' s' = on 4 ok ck (λ z. omega arith) (λ z. omega arith) (λ z. omega arith) (λ z. omega arith) (inl (ap turned_kind ck, ap turned_kind ok)) b' s'
    by (inr (ok, ck)) b' s' = on 6 ok ck (λ z. omega arith) (λ z. omega arith) (λ z. omega arith) (λ z. omega arith) (inr (ap turned_kind ck, ap turned_kind ok)) b' s'
turned_body {ts} (scope d o c a r ok ck f g b s) =
    subst (Body ts d) (sym (turned_pair o c a r))
    (joined_body (turned_body s) (scope d (turned_line c) (turned_line o) (turned a) [] (ap turned_kind ck) (ap turned_kind ok)
    (delocal_turned ts d c ck (local_room ts d o ok f) g) (local_turned ts d o ok f) (turned_body b) (nothing d)))

turned_methods : {ts : List Term} {a : List Line} → Methods ts a → Methods ts (turned a)
turned_methods none = none
turned_methods {ts} (method b e a r bk ek q f g body rest) =
    subst (Methods ts) (sym (turned_pair b e a r))
    (joined_methods (turned_methods rest) (method (turned_line e) (turned_line b) (turned a) [] (ap turned_kind ek) (ap turned_kind bk) (sym q)
    (fits_turned ts 0 e (other_kind e 1 8 ek (λ z. omega arith)) (other_kind e 1 9 ek (λ z. omega arith)) g)
    (fits_turned ts 0 b (other_kind b 0 8 bk (λ z. omega arith)) (other_kind b 0 9 bk (λ z. omega arith)) f) (turned_body body) none))

-- ---- the script

module _ (sc : Script) (ok : checked sc ≡ accepted) where
  abbrev n : ℕ
  n = length sc.lines

  -- a line of the turned script is one of the script, turned
  from_end : (i : ℕ) → i < length (turned sc.lines) → (n - 1 - i < n) × (line_at (turned sc.lines) i ≡ turned_line (line_at sc.lines (n - 1 - i)))
  from_end i h =
      let size = turned_length sc.lines in
      let low : n - 1 - i < n = omega arith in
      let e : n - 1 - (n - 1 - i) ≡ i = omega arith in
      (low, ap (line_at (turned sc.lines)) (sym e) ∙ line_turned sc (n - 1 - i) low)

  -- a begin of the turned script is the end of that method
  ends_at : (q i : ℕ) → Begins (turned sc.lines) q i → where_is 1 q sc.lines ≡ n - 1 - i
  ends_at q i (h, k, name) =
      let (low, e) = from_end i h in
      let kind : (line_at sc.lines (n - 1 - i)).kind ≡ 1 = from_turned _ 0 (ap (λ l. l.kind) (sym e) ∙ k) in
      ap (λ x. where_is 1 x sc.lines) (sym (ap (λ l. l.q) (sym e) ∙ name)) ∙ end_is sc ok (n - 1 - i) low kind

  turned_once : (q i j : ℕ) → Begins (turned sc.lines) q i → Begins (turned sc.lines) q j → i ≡ j
  turned_once q i j bi bj =
      let same : n - 1 - i ≡ n - 1 - j = sym (ends_at q i bi) ∙ ends_at q j bj in
      let size = turned_length sc.lines in
      let hi = bi.0 in
      let hj = bj.0 in
      omega arith

  turned_called : (k : ℕ) → k < length (turned sc.lines) → Calls (line_at (turned sc.lines) k) → (i : ℕ) × Begins (turned sc.lines) (line_at (turned sc.lines) k).q i
  turned_called k h c =
      let (low, e) = from_end k h in
      let kinds : Calls (line_at sc.lines (n - 1 - k)) =
      ⊎_elim (λ z. inl (from_turned _ 16 (ap (λ l. l.kind) (sym e) ∙ z))) (λ z. inr (from_turned _ 17 (ap (λ l. l.kind) (sym e) ∙ z))) c in
      let q = (line_at (turned sc.lines) k).q in
      let has : has_method (turned sc.lines) q ≡ true = ap (λ l. has_method (turned sc.lines) l.q) e ∙ has_mirrored sc ok (line_at sc.lines (n - 1 - k)).q ∙ calls_method sc ok (n - 1 - k) low kinds in
      let inside = ltb-true (where_is 0 q (turned sc.lines)) (length (turned sc.lines)) has in
      let (kind, name) = where_at 0 q (turned sc.lines) inside in
      (where_is 0 q (turned sc.lines), (inside, kind, name))

  pub turned_accepted : checked (turned_script sc) ≡ accepted
  turned_accepted =
      let all = allowed_from sc ok in
      let size = turned_length sc.lines in
      accepted_from (turned_script sc) (record {
        lines = let few = all.lines in omega arith;
        terms = all.terms;
        methods = turned_methods all.methods;
        once = turned_once;
        called = turned_called;
      })
