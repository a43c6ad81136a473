-- The grammar of allowed scripts, as a relation: a script is a list of methods, each a body between a begin and its end.
-- The check (Check.antt) says in which order faults are reported; this says what a script without a fault is.
use Rattle.std.specs.Prelude.{◌≡◌, ℕ, suc, ◌<◌, ◌≤◌, true, false, ◌⊎◌, List, [], ◌∷◌, ◌++◌, length}
use Rattle.rules.specs.Kinds.{code}
use Rattle.rules.specs.Script.{Script, line_at, bracket}
use Rattle.rules.specs.Check.{well_filled, well_formed_at, apart}
use Rattle.rules.specs.declared.Kind.TheVariants.{Begin, End, If, Fi, From, Until, Local, Delocal, Call, Uncall}
use Rattle.rules.specs.declared.Line.{Line}
use Rattle.rules.specs.declared.Term.{Term}

-- a line that is right by itself where d locals are open
pub record Fits (ts : List Term) (d : ℕ) (l : Line) : Type 0 where
  pub filled : well_filled l ≡ true
  pub formed : well_formed_at ts d l ≡ true
  pub separate : apart ts l ≡ true

-- if with fi, or from with until
abbrev pub Joined : Line → Line → Type 0
Joined o c = ((o.kind ≡ code If) × (c.kind ≡ code Fi)) ⊎ ((o.kind ≡ code From) × (c.kind ≡ code Until))

-- lines that open and close nothing beyond themselves, where d locals are open
pub data Body (ts : List Term) : ℕ → List Line → Type 0 where
  nothing : (d : ℕ) → Body ts d []
  plain : (d : ℕ) (l : Line) (after : List Line) → bracket l.kind ≡ false → Fits ts d l → Body ts d after → Body ts d (l ∷ after)
  pair : (d : ℕ) (o c : Line) (inner after : List Line) → Joined o c → Fits ts d o → Fits ts d c → Body ts d inner → Body ts d after → Body ts d (o ∷ inner ++ c ∷ after)
  -- inside a local pair one more local is open; the delocal still stands inside
  scope : (d : ℕ) (o c : Line) (inner after : List Line) → o.kind ≡ code Local → c.kind ≡ code Delocal → Fits ts d o → Fits ts (suc d) c → Body ts (suc d) inner → Body ts d after → Body ts d (o ∷ inner ++ c ∷ after)

pub data Methods (ts : List Term) : List Line → Type 0 where
  none : Methods ts []
  method : (b e : Line) (body after : List Line) → b.kind ≡ code Begin → e.kind ≡ code End → b.q ≡ e.q → Fits ts 0 b → Fits ts 0 e → Body ts 0 body → Methods ts after → Methods ts (b ∷ body ++ e ∷ after)

-- line i begins method q
abbrev pub Begins : List Line → ℕ → ℕ → Type 0
Begins ls q i = (i < length ls) × ((line_at ls i).kind ≡ code Begin) × ((line_at ls i).q ≡ q)

abbrev pub Calls : Line → Type 0
Calls l = (l.kind ≡ code Call) ⊎ (l.kind ≡ code Uncall)

pub record Allowed (sc : Script) : Type 0 where
  pub lines : length sc.lines ≤ 256
  pub terms : length sc.terms ≤ 1024
  pub methods : Methods sc.terms sc.lines
  -- no method is begun twice, and every called method is begun
  pub once : (q i j : ℕ) → Begins sc.lines q i → Begins sc.lines q j → i ≡ j
  pub called : (k : ℕ) → k < length sc.lines → Calls (line_at sc.lines k) → (i : ℕ) × Begins sc.lines (line_at sc.lines k).q i
