-- A machine that goes step by step and can be turned round, and its runs with a budget.
-- S is the type of its states, B of its books (what a run starts from and leaves), R of its refusals.
use Rattle.std.specs.Prelude.{◌≡◌, ℕ, zero, suc, Bool, true, false, T}

-- the two directions of a run
pub data Dir : Type 0 where
  fwd bwd : Dir

abbrev pub other : Dir → Dir
other fwd = bwd
other bwd = fwd

-- what a state does next: the run is at its end, it goes on at another state, or its step is refused
pub data Next (S R : Type 0) : Type 0 where
  finish : Next S R
  go : S → Next S R
  stop : R → Next S R

pub record Machine (S B R : Type 0) : Type 0 where
  -- what a run may start from, and which methods there are
  pub is_book : B → Bool
  pub has : ℕ → Bool
  -- where a run of a method starts, in a direction and on a book
  pub enter : ℕ → Dir → B → S
  pub step : S → Next S R
  -- the same state, facing the other way
  pub flip : S → S
  -- the line whose turn it is, and the book as it stands
  pub line : S → ℕ
  pub book : S → B
  -- why a run cannot start, for want of a book or of the method, and why it cannot go on when its budget is used up
  pub no_book : R
  pub no_method : R
  pub no_budget : R

-- What a machine owes: the laws of one step. Inv q d s says that s is a state of a run of method q that began in direction d.
pub record Lawful {S B R : Type 0} (m : Machine S B R) (Inv : ℕ → Dir → S → Type 0) : Type 0 where
  pub inv_enter : (q : ℕ) (d : Dir) (a : B) → T (m.is_book a) → T (m.has q) → Inv q d (m.enter q d a)
  pub inv_step : (q : ℕ) (d : Dir) (s t : S) → Inv q d s → m.step s ≡ go t → Inv q d t
  pub inv_flip : (q : ℕ) (d : Dir) (s : S) → Inv q d s → Inv q (other d) (m.flip s)
  pub inv_book : (q : ℕ) (d : Dir) (s : S) → Inv q d s → T (m.is_book (m.book s))
  pub flip_flip : (q : ℕ) (d : Dir) (s : S) → Inv q d s → m.flip (m.flip s) ≡ s
  pub book_flip : (s : S) → m.book (m.flip s) ≡ m.book s
  pub book_enter : (q : ℕ) (d : Dir) (a : B) → m.book (m.enter q d a) ≡ a
  -- a step, turned round, leads back
  pub reverse : (q : ℕ) (d : Dir) (s t : S) → Inv q d s → m.step s ≡ go t → m.step (m.flip t) ≡ go (m.flip s)
  -- a run's start, turned round, is at its end, and a run's end, turned round, is a start
  pub starts : (q : ℕ) (d : Dir) (a : B) → T (m.is_book a) → T (m.has q) → m.step (m.flip (m.enter q d a)) ≡ finish
  pub ends : (q : ℕ) (d : Dir) (s : S) → Inv q d s → m.step s ≡ finish → m.flip s ≡ m.enter q (other d) (m.book s)

-- how a walk came to rest: at its end, with its budget used up, or at a refused step
pub data How (R : Type 0) : Type 0 where
  ended : How R
  spent : How R
  bad : R → How R

pub record Walk (S R : Type 0) : Type 0 where
  pub how : How R
  pub steps : ℕ
  pub state : S

abbrev pub rest : {S R : Type 0} → How R → S → Walk S R
rest h s = record { how = h; steps = 0; state = s }

-- one step more, made before the walk
abbrev pub bump : {S R : Type 0} → Walk S R → Walk S R
bump w = record { how = w.how; steps = suc w.steps; state = w.state }

-- with no budget left: whether it is at its end
abbrev pub at_rest : {S R : Type 0} → S → Next S R → Walk S R
at_rest s finish = rest ended s
at_rest s (go t) = rest spent s
at_rest s (stop r) = rest spent s

abbrev pub onward : {S R : Type 0} → S → (S → Walk S R) → Next S R → Walk S R
onward s k finish = rest ended s
onward s k (go t) = bump (k t)
onward s k (stop r) = rest (bad r) s

-- how a run ended: finished (steps, book after), or refused (refusal, line, completed steps, book after)
pub data Outcome (B R : Type 0) : Type 0 where
  done : ℕ → B → Outcome B R
  refused : R → ℕ → ℕ → B → Outcome B R

-- the book that a run leaves
abbrev pub after : {B R : Type 0} → Outcome B R → B
after (done n b) = b
after (refused r l n b) = b

abbrev pub pick : {X : Type 0} → Bool → X → X → X
pick true x y = x
pick false x y = y

module _ {S B R : Type 0} (m : Machine S B R) where
  -- first whether it is at its end, then whether the budget is used up, then the step
  abbrev pub walk : ℕ → S → Walk S R
  walk zero s = at_rest s (m.step s)
  walk (suc b) s = onward s (walk b) (m.step s)

  -- back through n steps
  abbrev pub undo : ℕ → S → S
  undo n s = m.flip (walk n (m.flip s)).state

  -- a run that is refused steps back through its completed steps
  abbrev pub outcome : How R → ℕ → S → Outcome B R
  outcome ended n s = done n (m.book s)
  outcome spent n s = refused m.no_budget (m.line s) n (m.book (undo n s))
  outcome (bad r) n s = refused r (m.line s) n (m.book (undo n s))

  -- (a function of the walk, so that the walk is computed once)
  abbrev pub conclude : Walk S R → Outcome B R
  conclude w = outcome w.how w.steps w.state

  abbrev pub run_from : ℕ → S → Outcome B R
  run_from b s = conclude (walk b s)

  -- a run of method q in direction d from the book a with the budget b
  abbrev pub run : ℕ → Dir → B → ℕ → Outcome B R
  run q d a b = pick (m.is_book a) (pick (m.has q) (run_from b (m.enter q d a)) (refused m.no_method 0 0 a)) (refused m.no_book 0 0 a)

abbrev pub map_next : {S S' R : Type 0} → (S → S') → Next S R → Next S' R
map_next f finish = finish
map_next f (go t) = go (f t)
map_next f (stop r) = stop r

-- the same outcome, with its line and its book renamed
abbrev pub map_outcome : {B B' R : Type 0} → (ℕ → ℕ) → (B → B') → Outcome B R → Outcome B' R
map_outcome ln g (done n b) = done n (g b)
map_outcome ln g (refused r l n b) = refused r (ln l) n (g b)

-- no condition on a book
abbrev pub Any : {B : Type 0} → B → Type 0
Any b = Unit {0}

-- A map f of one machine's states to another's that keeps steps, with a map g of books, one of directions and one of lines.
-- From says of which books this is claimed, and J is what their runs keep.
pub record Maps {S B S' B' R : Type 0} (m : Machine S B R) (m' : Machine S' B' R) (From : B → Type 0) (J : ℕ → Dir → S → Type 0) (turns : Dir → Dir) (ln : ℕ → ℕ) (f : S → S') (g : B → B') : Type 0 where
  pub has : (q : ℕ) → m'.has q ≡ m.has q
  pub is_book : (a : B) → From a → m'.is_book (g a) ≡ m.is_book a
  pub no_budget : m'.no_budget ≡ m.no_budget
  pub inv_enter : (q : ℕ) (d : Dir) (a : B) → From a → T (m.is_book a) → T (m.has q) → J q d (m.enter q d a)
  pub inv_step : (q : ℕ) (d : Dir) (s t : S) → J q d s → m.step s ≡ go t → J q d t
  pub enter : (q : ℕ) (d : Dir) (a : B) → From a → T (m.is_book a) → T (m.has q) → m'.enter q (turns d) (g a) ≡ f (m.enter q d a)
  pub book : (q : ℕ) (d : Dir) (s : S) → J q d s → m'.book (f s) ≡ g (m.book s)
  pub line : (q : ℕ) (d : Dir) (s : S) → J q d s → m'.line (f s) ≡ ln (m.line s)
  pub step : (q : ℕ) (d : Dir) (s : S) → J q d s → m'.step (f s) ≡ map_next f (m.step s)
