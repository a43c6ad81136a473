-- The number of each kind of line.
use Rattle.std.specs.Prelude.{◌≡◌, ℕ, ◌<◌, Result, MatchResult}
use Rattle.rules.specs.declared.Refusal.{Refusal}
use Rattle.rules.specs.declared.Refusal.TheVariants.{Unknown}
use Rattle.rules.specs.declared.Kind.{Kind}
use Rattle.rules.specs.declared.Kind.TheVariants.{Begin, End, Add, Subtract, If, Fi, From, Until, Local, Delocal, New, Delete, Copy, Uncopy, Xor, Swap, Call, Uncall}

abbrev pub code : Kind → ℕ
code Begin = 0
code End = 1
code Add = 2
code Subtract = 3
code If = 4
code Fi = 5
code From = 6
code Until = 7
code Local = 8
code Delocal = 9
code New = 10
code Delete = 11
code Copy = 12
code Uncopy = 13
code Xor = 14
code Swap = 15
code Call = 16
code Uncall = 17

-- the kind with this number; where no kind has it, it is unknown
abbrev pub Decodes : ℕ → Result Kind Refusal → Type 0
Decodes n r = MatchResult r (λ kind. code kind ≡ n) (λ f. (f ≡ Unknown) × (17 < n))
