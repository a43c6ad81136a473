-- The screen, the ledger beside it, and the law that ties them.
-- A screen holds a book, a script and the list of what stands on the book, the standing list. The ledger is fed the book at
-- the opening and the calls' arguments alone, and says what the screen must answer.
use Rattle.std.specs.Prelude.{◌≡◌, ℕ, ◌-◌, Bool, true, false, T, ◌↔◌, List, [], ◌∷◌, ◌++◌, length, take, Result, nat_lt, slice_index_or}
use Rattle.reversible.specs.Machine.{Machine, Lawful, Dir, fwd, bwd, Outcome, done, refused, after, run}

-- what the check says of a script: accepted, or a refusal and its line
pub data Verdict (R : Type 0) : Type 0 where
  accepted : Verdict R
  rejected : R → ℕ → Verdict R

abbrev pub is_accepted : {R : Type 0} → Verdict R → Bool
is_accepted accepted = true
is_accepted (rejected r k) = false

-- What a screen goes by. S is the type of states, B of books, W of words, C of scripts, R of refusals.
pub record Rules (S B W C R : Type 0) : Type 0 where
  pub machine : C → Machine S B R
  pub empty : C
  pub check : C → Verdict R
  pub read : B → ℕ → Result W R
  -- how many methods may stand, and the refusals of the screen itself
  pub capacity : ℕ
  pub full : R
  pub nothing_stands : R
  pub something_stands : R

-- the machine of every accepted script is lawful
pub record LawfulRules {S B W C R : Type 0} (rules : Rules S B W C R) (Good : C → Type 0) (Inv : C → ℕ → Dir → S → Type 0) : Type 0 where
  pub good_empty : Good rules.empty
  pub good_script : (c : C) → rules.check c ≡ accepted → Good c
  pub lawful : (c : C) → Good c → Lawful (rules.machine c) (Inv c)

pub data Call (C : Type 0) : Type 0 where
  load : C → Call C
  apply : ℕ → ℕ → Call C
  back : Call C
  look : ℕ → Call C

-- load, apply and back succeed after some steps, or give a refusal, its line and the completed steps; look gives a word or a refusal
pub data Answer (W R : Type 0) : Type 0 where
  success : ℕ → Answer W R
  refusal : R → ℕ → ℕ → Answer W R
  seen : Result W R → Answer W R

-- a method that stands, and the steps in which it finished
pub record Entry : Type 0 where
  pub method : ℕ
  pub steps : ℕ

abbrev pub entry : ℕ → ℕ → Entry
entry q n = record { method = q; steps = n }

-- the first that joined first
abbrev pub Standing : Type 0
Standing = List Entry

-- the last pair, and the list when it is struck
abbrev pub last : Standing → Entry
last st = slice_index_or st (length st - 1) (entry 0 0)

abbrev pub struck : Standing → Standing
struck st = take (length st - 1) st

pub record Screen (B C : Type 0) : Type 0 where
  pub book : B
  pub script : C
  pub standing : Standing

pub record Ledger (B C : Type 0) : Type 0 where
  pub opening : B
  pub script : C
  pub standing : Standing

-- the book with each pair's method run forward, its steps the budget, first pair first
abbrev pub carried_on : {S B R : Type 0} → Machine S B R → B → Standing → B
carried_on m a [] = a
carried_on m a (x ∷ later) = carried_on m (after (run m x.method fwd a x.steps)) later

module _ {S B W C R : Type 0} (rules : Rules S B W C R) where
  -- no book, no such method, no room, in this order; then the run
  abbrev pub gate : Machine S B R → B → ℕ → ℕ → Bool → Bool → Bool → Outcome B R
  gate m a q budget false has room = refused m.no_book 0 0 a
  gate m a q budget true false room = refused m.no_method 0 0 a
  gate m a q budget true true false = refused rules.full 0 0 a
  gate m a q budget true true true = run m q fwd a budget

  abbrev pub attempt : Machine S B R → B → Standing → ℕ → ℕ → Outcome B R
  attempt m a st q budget = gate m a q budget (m.is_book a) (m.has q) (nat_lt (length st) rules.capacity)

  -- the opening book with what stands run on it
  abbrev pub carried : Ledger B C → B
  carried l = carried_on (rules.machine l.script) l.opening l.standing

  -- ---- the ledger

  abbrev pub ledger_load : Ledger B C → C → Standing → Verdict R → Answer W R × Ledger B C
  ledger_load l c (x ∷ xs) v = (refusal rules.something_stands 0 0, l)
  ledger_load l c [] accepted = (success 0, record { opening = l.opening; script = c; standing = l.standing })
  ledger_load l c [] (rejected r k) = (refusal r k 0, l)

  abbrev pub ledger_apply : Ledger B C → ℕ → Outcome B R → Answer W R × Ledger B C
  ledger_apply l q (done n b) = (success n, record { opening = l.opening; script = l.script; standing = l.standing ++ (entry q n ∷ []) })
  ledger_apply l q (refused r k n b) = (refusal r k n, l)

  -- back runs nothing: it strikes the last pair and gives its steps
  abbrev pub ledger_back : Ledger B C → Standing → Answer W R × Ledger B C
  ledger_back l [] = (refusal rules.nothing_stands 0 0, l)
  ledger_back l (x ∷ st) = (success (last (x ∷ st)).steps, record { opening = l.opening; script = l.script; standing = struck (x ∷ st) })

  abbrev pub ledger_call : Ledger B C → Call C → Answer W R × Ledger B C
  ledger_call l (load c) = ledger_load l c l.standing (rules.check c)
  ledger_call l (apply q budget) = ledger_apply l q (attempt (rules.machine l.script) (carried l) l.standing q budget)
  ledger_call l back = ledger_back l l.standing
  ledger_call l (look w) = (seen (rules.read (carried l) w), l)

  abbrev pub open_ledger : B → Ledger B C
  open_ledger a = record { opening = a; script = rules.empty; standing = [] }

  -- ---- the screen, which has the book itself

  abbrev pub screen_load : Screen B C → C → Standing → Verdict R → Answer W R × Screen B C
  screen_load s c (x ∷ xs) v = (refusal rules.something_stands 0 0, s)
  screen_load s c [] accepted = (success 0, record { book = s.book; script = c; standing = s.standing })
  screen_load s c [] (rejected r k) = (refusal r k 0, s)

  abbrev pub screen_apply : Screen B C → ℕ → Outcome B R → Answer W R × Screen B C
  screen_apply s q (done n b) = (success n, record { book = b; script = s.script; standing = s.standing ++ (entry q n ∷ []) })
  screen_apply s q (refused r k n b) = (refusal r k n, record { book = b; script = s.script; standing = s.standing })

  -- back runs the last standing method backward
  abbrev pub screen_backed : Screen B C → Outcome B R → Answer W R × Screen B C
  screen_backed s (done n b) = (success n, record { book = b; script = s.script; standing = struck s.standing })
  screen_backed s (refused r k n b) = (refusal r k n, record { book = b; script = s.script; standing = s.standing })

  abbrev pub screen_back : Screen B C → Standing → Answer W R × Screen B C
  screen_back s [] = (refusal rules.nothing_stands 0 0, s)
  screen_back s (x ∷ st) = screen_backed s (run (rules.machine s.script) (last (x ∷ st)).method bwd s.book (last (x ∷ st)).steps)

  abbrev pub screen_call : Screen B C → Call C → Answer W R × Screen B C
  screen_call s (load c) = screen_load s c s.standing (rules.check c)
  screen_call s (apply q budget) = screen_apply s q (attempt (rules.machine s.script) s.book s.standing q budget)
  screen_call s back = screen_back s s.standing
  screen_call s (look w) = (seen (rules.read s.book w), s)

  abbrev pub open_screen : B → Screen B C
  open_screen a = record { book = a; script = rules.empty; standing = [] }

-- a sequence of calls: the answers in order, and where it leads
abbrev pub plays : {X Y Z : Type 0} → (X → Y → Z × X) → X → List Y → List Z × X
plays f x [] = ([], x)
plays f x (c ∷ cs) = ((f x c).0 ∷ (plays f (f x c).1 cs).0, (plays f (f x c).1 cs).1)

module _ {S B W C R : Type 0} (rules : Rules S B W C R) where
  -- a newly opened screen and ledger over the book a, after these calls
  abbrev pub screen_after : B → List (Call C) → Screen B C
  screen_after a cs = (plays (screen_call rules) (open_screen rules a) cs).1

  abbrev pub ledger_after : B → List (Call C) → Ledger B C
  ledger_after a cs = (plays (ledger_call rules) (open_ledger rules a) cs).1

  -- what the two have in common after these calls
  pub record Tied (a : B) (cs : List (Call C)) : Type 0 where
    pub answers : (plays (screen_call rules) (open_screen rules a) cs).0 ≡ (plays (ledger_call rules) (open_ledger rules a) cs).0
    pub script : (screen_after a cs).script ≡ (ledger_after a cs).script
    pub standing : (screen_after a cs).standing ≡ (ledger_after a cs).standing
    pub book : (screen_after a cs).book ≡ carried rules (ledger_after a cs)
    -- back is refused exactly when nothing stands, and otherwise takes the steps of the last pair
    pub refuses : ((screen_call rules (screen_after a cs) back).0 ≡ refusal rules.nothing_stands 0 0) ↔ ((screen_after a cs).standing ≡ [])
    pub gives : (x : Entry) (st : Standing) → (screen_after a cs).standing ≡ x ∷ st → (screen_call rules (screen_after a cs) back).0 ≡ success (last (x ∷ st)).steps

  -- the ledger law: whatever is called on a newly opened screen, it answers as the ledger does
  abbrev pub Keeps : Type 0
  Keeps = (a : B) (cs : List (Call C)) → Tied a cs

  -- One call c after the calls cs, answered r and leaving s': the answer, the standing list and the book are the ledger's.
  pub record Heard (a : B) (cs : List (Call C)) (c : Call C) (r : Answer W R) (s' : Screen B C) : Type 0 where
    pub answer : r ≡ (ledger_call rules (ledger_after a cs) c).0
    pub standing : s'.standing ≡ (ledger_call rules (ledger_after a cs) c).1.standing
    pub book : s'.book ≡ carried rules (ledger_call rules (ledger_after a cs) c).1
    pub onward : s' ≡ screen_after a (cs ++ (c ∷ []))

  -- the same of one call on a screen s, whatever the opening book and the calls that led to s
  abbrev pub Follows : Screen B C → Call C → Answer W R → Screen B C → Type 0
  Follows s c r s' = (a : B) (cs : List (Call C)) → s ≡ screen_after a cs → Heard a cs c r s'

module _ {S B W C R : Type 0} (rules : Rules S B W C R) where
  -- Two screens with one script, whatever was called on each before: where both finish method q, each with a budget of its own,
  -- their books are equal after exactly when they were equal before.
  abbrev pub Apart : Type 0
  Apart =
      (a b : B) (cs ds : List (Call C)) (q x y n k : ℕ) → (screen_after rules a cs).script ≡ (screen_after rules b ds).script
      → (screen_call rules (screen_after rules a cs) (apply q x)).0 ≡ success n → (screen_call rules (screen_after rules b ds) (apply q y)).0 ≡ success k
      → ((screen_after rules a cs).book ≡ (screen_after rules b ds).book) ↔ ((screen_call rules (screen_after rules a cs) (apply q x)).1.book ≡ (screen_call rules (screen_after rules b ds) (apply q y)).1.book)

-- the ledger law holds of all lawful rules (an invariant that is decided by a test, as in LawfulRuns)
abbrev pub LedgerLaw : Type 0 → Type 0 → Type 0 → Type 0 → Type 0 → Type 0
LedgerLaw S B W C R =
    (rules : Rules S B W C R) (good : C → Bool) (inv : C → ℕ → Dir → S → Bool)
    → LawfulRules rules (λ c. T (good c)) (λ c q d s. T (inv c q d s)) → Keeps rules
