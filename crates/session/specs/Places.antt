-- How places are written: a letter, as its byte, and an index; none is written otherwise.
use Rattle.std.specs.Prelude.{◌≡◌, ℕ, false, cond, Some, None, Option, ◌==◌}
use Rattle.rules.specs.Script.{index, is_none}
use Rattle.rules.specs.declared.Place.{Place}
use Rattle.rules.specs.declared.Place.TheVariants.{None as none, M, R, N, F, V}

-- m, r, n, f, v
abbrev pub byte_of : Place → ℕ
byte_of none = 45
byte_of (M i) = 109
byte_of (R i) = 114
byte_of (N i) = 110
byte_of (F i) = 102
byte_of (V i) = 118

abbrev pub place_of : ℕ → ℕ → Option Place
place_of b i =
    cond (b == 109) (Some (M i)) (
    cond (b == 114) (Some (R i)) (
    cond (b == 110) (Some (N i)) (
    cond (b == 102) (Some (F i)) (
    cond (b == 118) (Some (V i)) None))))

-- what is written of a place reads as that place
abbrev pub Inverse : Type 0
Inverse = (p : Place) → is_none p ≡ false → place_of (byte_of p) (index p) ≡ Some p
