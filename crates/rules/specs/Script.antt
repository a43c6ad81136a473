-- Scripts: places, turning, and the lines that belong together.
use Rattle.std.specs.Prelude.{ℕ, suc, ◌+◌, ◌-◌, ◌%◌, Bool, true, false, cond, ◌&&◌, ◌||◌, List, [], ◌∷◌, map, reverse, length, take, drop, ◌==◌, bit_xor, nat_le, nat_lt, slice_index_or}
use Rattle.rules.specs.Kinds.{code}
use Rattle.rules.specs.declared.Kind.TheVariants.{Begin}
use Rattle.rules.specs.declared.Place.{Place}
use Rattle.rules.specs.declared.Place.TheVariants.{None, M, R, N, F, V}
use Rattle.rules.specs.declared.Line.{Line}
use Rattle.rules.specs.declared.Term.{Term}

-- ---- places

-- the letter of a place, as a number, and its index
abbrev pub letter : Place → ℕ
letter None = 0
letter (M i) = 1
letter (R i) = 2
letter (N i) = 3
letter (F i) = 4
letter (V i) = 5

abbrev pub index : Place → ℕ
index None = 0
index (M i) = i
index (R i) = i
index (N i) = i
index (F i) = i
index (V i) = i

abbrev pub alike : Place → Place → Bool
alike p q = letter p == letter q && index p == index q

abbrev pub is_none : Place → Bool
is_none p = letter p == 0

-- ---- tables

pub record Script : Type 0 where
  pub lines : List Line
  pub terms : List Term

-- what stands past the last line: a line of no kind
abbrev pub no_line : Line
no_line = record { kind = 18; x = None; y = None; q = 0; first = 0; count = 0 }

abbrev pub line_at : List Line → ℕ → Line
line_at ls k = slice_index_or ls k no_line

-- the terms of a line's expression
abbrev pub terms_of : List Term → Line → List Term
terms_of ts l = take l.count (drop l.first ts)

-- ---- turning

-- kinds below 14 change their lowest bit, calls stay calls
abbrev pub turned_kind : ℕ → ℕ
turned_kind k = cond (nat_lt k 14) (bit_xor k 1) k

abbrev pub turned_line : Line → Line
turned_line l = record { kind = turned_kind l.kind; x = l.x; y = l.y; q = l.q; first = l.first; count = l.count }

abbrev pub turned : List Line → List Line
turned ls = map turned_line (reverse ls)

abbrev pub turned_script : Script → Script
turned_script sc = record { lines = turned sc.lines; terms = sc.terms }

-- ---- pairs

-- begin, if, from and local open a pair, and end, fi, until and delocal close it
abbrev pub bracket : ℕ → Bool
bracket k = nat_le k 1 || (nat_le 4 k && nat_le k 9)

abbrev pub opens : ℕ → Bool
opens k = bracket k && k % 2 == 0

abbrev pub closes : ℕ → Bool
closes k = bracket k && k % 2 == 1

-- how many further pairs are open after a line
abbrev pub deeper : ℕ → ℕ → ℕ
deeper kind d = cond (opens kind) (suc d) (cond (closes kind) (d - 1) d)

-- how many lines stand before the one that closes the pair open at the start, d further pairs being open
unfoldable pub to_closer : List Line → ℕ → ℕ
to_closer [] d = 0
to_closer (l ∷ ls) d =
    let rest = to_closer ls (deeper l.kind d) in
    cond (closes l.kind && d == 0) 0 (suc rest)

-- the other line of the pair that line k belongs to, k itself if it belongs to none; from a closer it is looked for in the turned lines
unfoldable pub partner : List Line → ℕ → ℕ
partner ls k =
    cond (opens (line_at ls k).kind) (suc k + to_closer (drop (suc k) ls) 0)
    (cond (closes (line_at ls k).kind) (k - suc (to_closer (turned (take k ls)) 0)) k)

-- ---- methods

-- the first line of this kind and method, or the number of lines if there is none
unfoldable pub where_is : ℕ → ℕ → List Line → ℕ
where_is kind q [] = 0
where_is kind q (l ∷ ls) = elim (l.kind == kind && l.q == q) [ true ↦ 0 | false ↦ suc (where_is kind q ls) ]

abbrev pub has_method : List Line → ℕ → Bool
has_method ls q = nat_lt (where_is (code Begin) q ls) (length ls)
