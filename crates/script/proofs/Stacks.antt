-- The openers, and how many of them are locals.
use Rattle.std.proofs.Common.{ℕ, suc, ◌+◌, ◌≤◌, Bool, true, false, cond, eqb, List, [], ◌∷◌, length, arith}
use mathlib.Core.List.{tail}
use Rattle.rules.specs.Script.{opens, closes}
use Rattle.rules.specs.Check.{depth, after}
use Rattle.rules.specs.declared.Line.{Line}
use Rattle.rules.specs.declared.Place.TheVariants.{None}

-- what the code reads past the end of an array of lines
abbrev pub blank : Line
blank = record { kind = 0; x = None; y = None; q = 0; first = 0; count = 0 }

abbrev pub is_local : Line → Bool
is_local l = eqb l.kind 8

-- of so many openers no more are local
pub depth_low : (os : List Line) → depth os ≤ length os
depth_low [] = omega arith
depth_low (o ∷ os) = by (is_local o) (depth_low os)
  where
    by : (b : Bool) → depth os ≤ length os → cond b (suc (depth os)) (depth os) ≤ suc (length os)
    by true h = omega (arith, h)
    by false h = omega (arith, h)

-- a line opens at most one pair more
pub after_long : (os : List Line) (l : Line) (k : ℕ) → length os ≤ k → length (after os l) ≤ k + 1
after_long os l k h = by (opens l.kind) (closes l.kind) os h
  where
    by : (o c : Bool) (os : List Line) → length os ≤ k → length (cond o (l ∷ os) (cond c (tail os) os)) ≤ k + 1
    by true c os h = omega arith
    by false true [] h = omega arith
    by false true (x ∷ os) h = omega arith
    by false false os h = omega arith
