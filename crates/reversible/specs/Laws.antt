-- The laws that whole runs follow.
use Rattle.std.specs.Prelude.{◌≡◌, ℕ, ◌≤◌, Bool, T, ◌↔◌}
use Rattle.reversible.specs.Machine.{Machine, Lawful, Maps, Dir, fwd, other, done, refused, run, map_outcome}

module _ {S B R : Type 0} (m : Machine S B R) where
  -- a refused run leaves the book it began with
  abbrev pub Restores : Type 0
  Restores = (q : ℕ) (d : Dir) (a b : B) (budget : ℕ) (r : R) (l n : ℕ) → run m q d a budget ≡ refused r l n b → b ≡ a

  -- a run that finishes does so with exactly the budgets that suffice
  abbrev pub Budgets : Type 0
  Budgets = (q : ℕ) (d : Dir) (a b : B) (budget n : ℕ) → run m q d a budget ≡ done n b ↔ ((n ≤ budget) × (run m q d a n ≡ done n b))

  -- two finished runs from one book agree, whatever their budgets
  abbrev pub Agrees : Type 0
  Agrees = (q : ℕ) (d : Dir) (a b b' : B) (c c' n n' : ℕ) → run m q d a c ≡ done n b → run m q d a c' ≡ done n' b' → (n ≡ n') × (b ≡ b')

  -- backward from b at a exactly when forward from a at b, in as many steps
  abbrev pub Undoes : Type 0
  Undoes = (q : ℕ) (d : Dir) (a b : B) (n : ℕ) → run m q d a n ≡ done n b ↔ run m q (other d) b n ≡ done n a

  -- two finished runs of one method, each with a budget of its own: equal ends exactly from equal starts
  abbrev pub Separates : Type 0
  Separates = (q : ℕ) (d : Dir) (a a' b b' : B) (c c' n n' : ℕ) → run m q d a c ≡ done n b → run m q d a' c' ≡ done n' b' → a ≡ a' ↔ b ≡ b'

-- what every lawful machine's runs keep
pub record RunLaws {S B R : Type 0} (m : Machine S B R) : Type 0 where
  pub restores : Restores m
  pub budgets : Budgets m
  pub agrees : Agrees m
  pub undoes : Undoes m
  pub separates : Separates m

-- the turned machine goes forward from b to a exactly when this one goes forward from a to b, in as many steps
abbrev pub Turns : {S B S' R : Type 0} → Machine S B R → Machine S' B R → Type 0
Turns {S} {B} m m' = (q : ℕ) (a b : B) (n : ℕ) → run m q fwd a n ≡ done n b ↔ run m' q fwd b n ≡ done n a

-- a run on mapped books is the run, mapped: refusals, lines and steps included
abbrev pub Carries : {S B S' B' R : Type 0} → Machine S B R → Machine S' B' R → (B → Type 0) → (Dir → Dir) → (ℕ → ℕ) → (B → B') → Type 0
Carries {S} {B} m m' From turns ln g =
    (q : ℕ) (d : Dir) (a : B) (budget : ℕ) → From a → T (m.is_book a) → T (m.has q) → run m' q (turns d) (g a) budget ≡ map_outcome ln g (run m q d a budget)

-- an invariant that is decided by a test (a clause of a contract cannot range over all propositions)
abbrev pub Tested : {S : Type 0} → (ℕ → Dir → S → Bool) → ℕ → Dir → S → Type 0
Tested inv q d s = T (inv q d s)

-- every lawful machine keeps the laws of whole runs
abbrev pub LawfulRuns : Type 0 → Type 0 → Type 0 → Type 0
LawfulRuns S B R = (m : Machine S B R) (inv : ℕ → Dir → S → Bool) → Lawful m (Tested inv) → RunLaws m

-- every map between lawful machines carries whole outcomes
abbrev pub MapsCarry : Type 0 → Type 0 → Type 0 → Type 0 → Type 0 → Type 0
MapsCarry S B S' B' R =
    (m : Machine S B R) (m' : Machine S' B' R) (from : B → Bool) (inv : ℕ → Dir → S → Bool) (turns : Dir → Dir) (ln : ℕ → ℕ) (f : S → S') (g : B → B')
    → Maps m m' (λ a. T (from a)) (Tested inv) turns ln f g → RunLaws m → RunLaws m' → Carries m m' (λ a. T (from a)) turns ln g
