-- Records that words name.
use Rattle.std.specs.Prelude.{◌≡◌, ℕ, ◌<◌, ◌≤◌, List, ℤ, Some, None, Option}
use Rattle.rules.specs.Book.{named}

-- the record that a word names, if there is one
abbrev pub Names : Option ℕ → List ℤ → ℤ → Type 0
Names None b v = named b v ≡ 0
Names (Some k) b v = (named b v ≡ k) × (0 < k) × (k ≤ 1000)
