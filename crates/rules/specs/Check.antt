-- The check: the sizes of the tables, then each line in order, then pairs left open, then calls of missing methods.
use Rattle.std.specs.Prelude.{ℕ, suc, ◌+◌, ◌-◌, Bool, true, false, cond, not, ◌&&◌, ◌||◌, List, [], ◌∷◌, length, get_or, pos, Result, ◌==◌, nat_le, nat_lt, slice_index_or}
use mathlib.Core.List.{tail}
use Rattle.reversible.specs.Ledger.{Verdict, accepted, rejected, is_accepted}
use Rattle.rules.specs.Answer.{◌>>=◌, need, either}
use Rattle.rules.specs.Word.{eq_z}
use Rattle.rules.specs.Kinds.{code}
use Rattle.rules.specs.Script.{is_none, alike, Script, opens, closes, where_is, has_method, terms_of}
use Rattle.rules.specs.declared.Kind.TheVariants.{Begin, End, Local, Delocal, Copy, Uncopy, Call, Uncall}
use Rattle.rules.specs.declared.Place.{Place}
use Rattle.rules.specs.declared.Place.TheVariants.{None, M, R, N, F, V}
use Rattle.rules.specs.declared.Line.{Line}
use Rattle.rules.specs.declared.Term.{Term}
use Rattle.rules.specs.declared.Refusal.{Refusal}
use Rattle.rules.specs.declared.Refusal.TheVariants.{TooLong, Unknown, Unpaired, WrongMethod, Malformed, SelfNamed}

-- ---- places

abbrev pub within : ℕ → ℕ → ℕ → Bool
within low high i = nat_le low i && nat_le i high

abbrev pub known : Place → Bool
known None = true
known (M i) = within 1 64 i
known (R i) = within 1 16 i
known (N i) = within 0 3 i
known (F i) = within 0 3 i
known (V i) = within 0 15 i

-- 0 no place, 1 a number place, 2 a reference place
abbrev pub sort : Place → ℕ
sort None = 0
sort (M i) = 1
sort (R i) = 2
sort (N i) = 1
sort (F i) = 2
sort (V i) = 1

-- a local is named only where it is open
abbrev pub reaches : ℕ → Place → Bool
reaches depth None = true
reaches depth (M i) = true
reaches depth (R i) = true
reaches depth (N i) = true
reaches depth (F i) = true
reaches depth (V i) = nat_lt i depth

-- ---- what a line of each kind uses

-- whether it has a method and an expression, and which sorts its places x and y may have
pub record Form : Type 0 where
  pub method : Bool
  pub expression : Bool
  pub sorts : List (ℕ × ℕ)

abbrev pub form : Bool → Bool → List (ℕ × ℕ) → Form
form m e s = record { method = m; expression = e; sorts = s }

-- in the order of the kinds: begin, end; add, subtract; if, fi, from, until, local, delocal; new, delete; copy, uncopy; xor; swap; call, uncall
abbrev pub forms : List Form
forms =
    form true false ((0, 0) ∷ [])
    ∷ form true false ((0, 0) ∷ [])
    ∷ form false true ((1, 0) ∷ [])
    ∷ form false true ((1, 0) ∷ [])
    ∷ form false true ((0, 0) ∷ [])
    ∷ form false true ((0, 0) ∷ [])
    ∷ form false true ((0, 0) ∷ [])
    ∷ form false true ((0, 0) ∷ [])
    ∷ form false true ((0, 0) ∷ [])
    ∷ form false true ((0, 0) ∷ [])
    ∷ form false false ((2, 0) ∷ [])
    ∷ form false false ((2, 0) ∷ [])
    ∷ form false false ((2, 2) ∷ [])
    ∷ form false false ((2, 2) ∷ [])
    ∷ form false true ((1, 0) ∷ [])
    ∷ form false false ((1, 1) ∷ (2, 2) ∷ [])
    ∷ form true false ((0, 0) ∷ (0, 2) ∷ [])
    ∷ form true false ((0, 0) ∷ (0, 2) ∷ [])
    ∷ []

abbrev pub form_of : ℕ → Form
form_of kind = slice_index_or forms kind (form false false [])

abbrev pub uses_x : List (ℕ × ℕ) → Bool
uses_x [] = false
uses_x (s ∷ ss) = nat_lt 0 s.0 || uses_x ss

abbrev pub uses_y : List (ℕ × ℕ) → Bool
uses_y [] = false
uses_y (s ∷ ss) = nat_lt 0 s.1 || uses_y ss

abbrev pub among : ℕ → ℕ → List (ℕ × ℕ) → Bool
among a b [] = false
among a b (s ∷ ss) = (a == s.0 && b == s.1) || among a b ss

-- Unknown: kind, places and method are known, and what the kind does not use is none or 0
abbrev pub well_filled : Line → Bool
well_filled l =
    let f = form_of l.kind in
    nat_le l.kind 17 && (known l.x && (known l.y && (nat_le l.q 31
    && ((f.method || l.q == 0)
    && ((uses_x f.sorts || is_none l.x)
    && ((uses_y f.sorts || is_none l.y)
    && (f.expression || (l.first == 0 && l.count == 0))))))))

-- ---- pairs; the openers not yet closed are kept, the last first

-- Unpaired: begin stands outside a method, every other line inside one, and a closer meets its opener
abbrev pub nests : List Line → Line → Bool
nests [] l = l.kind == code Begin
nests (o ∷ os) l =
    not (l.kind == code Begin)
    && (not (closes l.kind) || (suc o.kind == l.kind && (not (l.kind == code End) || o.q == l.q)))

-- the openers open after a line
abbrev pub after : List Line → Line → List Line
after os l = cond (opens l.kind) (l ∷ os) (cond (closes l.kind) (tail os) os)

-- how many locals are open
abbrev pub depth : List Line → ℕ
depth [] = 0
depth (o ∷ os) = cond (o.kind == code Local) (suc (depth os)) (depth os)

-- ---- expressions

-- a known place, and open if it is a local
abbrev pub place_form : ℕ → Place → Bool
place_form d p = known p && reaches d p

-- what a term of each kind uses: a number; a number place; nil of a reference place; same of two; an operator
abbrev pub term_shape : Term → Bool
term_shape t =
    get_or
    ((is_none t.first && is_none t.second)
    ∷ (sort t.first == 1 && (is_none t.second && eq_z t.number (pos 0)))
    ∷ (sort t.first == 2 && (is_none t.second && eq_z t.number (pos 0)))
    ∷ (sort t.first == 2 && (sort t.second == 2 && eq_z t.number (pos 0)))
    ∷ [])
    t.kind
    (nat_le t.kind 19 && (is_none t.first && (is_none t.second && eq_z t.number (pos 0))))

abbrev pub term_form : ℕ → Term → Bool
term_form d t = term_shape t && (place_form d t.first && place_form d t.second)

abbrev pub terms_form : ℕ → List Term → Bool
terms_form d [] = true
terms_form d (t ∷ ts) = term_form d t && terms_form d ts

-- with n values waiting before these terms: at most 16 ever wait, and one is left at the end
abbrev pub postfix : ℕ → List Term → Bool
postfix n [] = n == 1
postfix n (t ∷ ts) =
    elim (nat_le t.kind 3) [
      | true ↦ nat_lt n 16 && postfix (suc n) ts
      | false ↦ nat_le 2 n && postfix (n - 1) ts
    ]

-- 1 to 32 terms within the table, each well formed where d locals are open
abbrev pub expression_form : List Term → ℕ → Line → Bool
expression_form ts d l =
    within 1 32 l.count && (nat_le (l.first + l.count) (length ts)
    && (terms_form d (terms_of ts l) && postfix 0 (terms_of ts l)))

-- Malformed: the expression is well formed, the places are of the right sort, and the locals named are open.
-- A local is opened only below 16, and a delocal's expression does not see the local that it closes.
abbrev pub well_formed_at : List Term → ℕ → Line → Bool
well_formed_at ts d l =
    let f = form_of l.kind in
    among (sort l.x) (sort l.y) f.sorts
    && ((reaches d l.x && reaches d l.y)
    && ((not (l.kind == code Local) || nat_lt d 16)
    && (not f.expression || expression_form ts (cond (l.kind == code Delocal) (d - 1) d) l)))

abbrev pub well_formed : List Term → List Line → Line → Bool
well_formed ts os l = well_formed_at ts (depth os) l

-- SelfNamed: x is not named in its own expression, and copy and uncopy have two places
abbrev pub names : Place → List Term → Bool
names p [] = false
names p (t ∷ ts) = (alike p t.first || alike p t.second) || names p ts

abbrev pub apart : List Term → Line → Bool
apart ts l =
    (is_none l.x || not (names l.x (terms_of ts l)))
    && (not (within (code Copy) (code Uncopy) l.kind) || not (alike l.x l.y))

-- ---- the whole

-- line k, the openers os being open before it; a begin must be the first of its method
abbrev pub judged : Script → ℕ → List Line → Line → Result (Unit {0}) Refusal
judged sc k os l = do
  _ ← need (well_filled l) Unknown
  _ ← need (nests os l) Unpaired
  _ ← need (not (l.kind == code Begin) || where_is (code Begin) l.q sc.lines == k) WrongMethod
  _ ← need (well_formed sc.terms os l) Malformed
  need (apart sc.terms l) SelfNamed

-- the first call of a missing method, from line k on
abbrev pub calls : List Line → ℕ → List Line → Verdict Refusal
calls all k [] = accepted
calls all k (l ∷ ls) =
    elim (within (code Call) (code Uncall) l.kind && not (has_method all l.q)) [ true ↦ rejected WrongMethod k | false ↦ calls all (suc k) ls ]

-- from line k on, the openers os being open before it
abbrev pub walked : Script → ℕ → List Line → List Line → Verdict Refusal
walked sc k [] [] = calls sc.lines 0 sc.lines
walked sc k (o ∷ os) [] = rejected Unpaired k
walked sc k os (l ∷ ls) =
    either (judged sc k os l) (λ _. walked sc (suc k) (after os l) ls) (λ r. rejected r k)

-- at most 256 lines and 1,024 terms, then the lines
abbrev pub small : Script → Bool
small sc = nat_le (length sc.lines) 256 && nat_le (length sc.terms) 1024

abbrev pub checked : Script → Verdict Refusal
checked sc =
    let rest = walked sc 0 [] sc.lines in
    cond (small sc) rest (rejected TooLong 0)

-- whether the check accepts, as a test
abbrev pub allowed : Script → Bool
allowed sc = is_accepted (checked sc)
