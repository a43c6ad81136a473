-- Digests: FNV-1a with 64 bits, over numbers as four bytes each, the highest first.
use Rattle.std.specs.Prelude.{ℕ, ◌*◌, ◌/◌, ◌%◌, ◌^◌, List, [], ◌∷◌, fold, bit_xor}
use Rattle.rules.specs.Script.{letter, index}
use Rattle.rules.specs.declared.Line.{Line}

-- the digest of nothing
abbrev pub basis : ℕ
basis = 14695981039346656037

-- a byte is joined by exclusive or, and then all is multiplied
unfoldable pub with_byte : ℕ → ℕ → ℕ
with_byte h b = bit_xor h b * 1099511628211 % 2 ^ 64

unfoldable pub with_number : ℕ → ℕ → ℕ
with_number h n = with_byte (with_byte (with_byte (with_byte h (n / 16777216 % 256)) (n / 65536 % 256)) (n / 256 % 256)) (n % 256)

-- the numbers of a line: places by their sort and index
abbrev pub numbers : Line → List ℕ
numbers l = l.kind ∷ letter l.x ∷ index l.x ∷ letter l.y ∷ index l.y ∷ l.q ∷ l.first ∷ l.count ∷ []

abbrev pub with_line : ℕ → Line → ℕ
with_line h l = fold with_number h (numbers l)

-- the digest of the numbers of all lines in turn
abbrev pub lines_digest : List Line → ℕ
lines_digest ls = fold with_line basis ls
