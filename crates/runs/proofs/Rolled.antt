-- A walk from the start of a run gives its outcome; a refused one is rolled back, since every step of an allowed script leads back.
use Rattle.std.proofs.Common.{◌≡◌, ℕ, zero, suc, ◌+◌, Bool, true, false, List, ℤ, Ok, Err, Result, sym, ap, ◌∙◌, arith}
use Rattle.reversible.specs.Machine.{Next, finish, go, stop, Dir, How, ended, spent, bad, refused, walk, undo, outcome, run_from}
use Rattle.reversible.specs.Ledger.{accepted}
use Rattle.reversible.proofs.Runs.{Steps, Rests, walk_rests, steps_back, undo_back}
use Rattle.rules.specs.declared.Refusal.{Refusal}
use Rattle.rules.specs.declared.Refusal.TheVariants.{OutOfBudget}
use Rattle.rules.specs.Answer.{either}
use Rattle.rules.specs.Book.{is_book}
use Rattle.rules.specs.Script.{Script, has_method}
use Rattle.rules.specs.Check.{checked}
use Rattle.rules.specs.Step.{State, step, finished, flipped, turn_of}
use Rattle.rules.specs.Run.{next, machine}
use Rattle.laws.proofs.Lawful.{Inv, lawful, to_t}
use Rattle.runs.specs.declared.Stopped.{Stopped}
use Rattle.runs.specs.Walks.{stopped_at, said, halt, halted, stepped}

step_from : (sc : Script) (s t : State) → next sc s ≡ go t → step sc s ≡ Ok t
step_from sc s t e = by (finished sc s) (step sc s) e
  where
    by : (b : Bool) (r : Result State Refusal) → elim b as (λ _. Next State Refusal) [ true ↦ finish | false ↦ either r go stop ] ≡ go t → r ≡ Ok t
    by true r e = absurd (let z : ◌≡◌ {A = ℕ} 0 1 = cc in omega arith)
    by false (Ok u) e = cc
    by false (Err f) e = absurd (let z : ◌≡◌ {A = ℕ} 0 1 = cc in omega arith)

-- steps that can be made are made
along : (sc : Script) (n : ℕ) (s t : State) → Steps (machine sc) n s t → stepped sc n s ≡ t
unfolding stepped
along sc zero s t e = e
along sc (suc n) s t (u, e, path) = rw (step_from sc s u e) (along sc n u t path)

module _ (sc : Script) (ok : checked sc ≡ accepted) (q : ℕ) (d : Dir) (a : List ℤ) (is : is_book a ≡ true) (has : has_method sc.lines q ≡ true) (budget : ℕ) (t : State) where
  abbrev begun : State
  begun = (machine sc).enter q d a

  inv : Inv sc ok q d begun
  inv = (lawful sc ok).inv_enter q d a (to_t _ is) (to_t _ has)

  module _ (r : Stopped) (e : halt (Err r) t ≡ halted 0 (walk (machine sc) budget begun)) where
    -- what is known of the walk, however it was refused
    path_back : (k : ℕ) (u : State) → r.steps ≡ 0 + k → t ≡ u → Steps (machine sc) k begun u → (stepped sc r.steps (flipped t)).book ≡ a
    path_back k u m at path =
        let c : r.steps ≡ k = omega arith in
        ap (λ x. (stepped sc x (flipped t)).book) c
        ∙ ap (λ x. (stepped sc k (flipped x)).book) at
        ∙ ap (λ x. x.book) (along sc k (flipped u) (flipped begun) (steps_back (machine sc) (Inv sc ok) (lawful sc ok) k q d begun u inv path))

    told_so : (f : Refusal) (k : ℕ) (u : State) → r ≡ stopped_at f (0 + k) u → Steps (machine sc) k begun u
        → refused r.refusal r.line r.steps a ≡ refused f (turn_of u) k (undo (machine sc) k u).book
    told_so f k u p path =
        let c : 0 + k ≡ k = omega arith in
        ap (λ x. refused x.refusal x.line x.steps a) p
        ∙ ap (λ x. refused f (turn_of u) x a) c
        ∙ ap (λ x. refused f (turn_of u) k x.book) (sym (undo_back (machine sc) (Inv sc ok) (lawful sc ok) k q d begun u inv path))

    pub refused_run : (refused r.refusal r.line r.steps a ≡ run_from (machine sc) budget begun) × ((stepped sc r.steps (flipped t)).book ≡ a)
    refused_run = let w = walk (machine sc) budget begun in by w.how w.steps w.state (walk_rests (machine sc) budget begun) e
      where
        by : (h : How Refusal) (k : ℕ) (u : State) → Rests (machine sc) h budget k begun u → halt (Err r) t ≡ halt (said h (0 + k) u) u
            → (refused r.refusal r.line r.steps a ≡ outcome (machine sc) h k u) × ((stepped sc r.steps (flipped t)).book ≡ a)
        by ended k u rest e = let p = ap (λ x. x.answer) e in absurd (let z : ◌≡◌ {A = ℕ} 0 1 = cc in omega arith)
        by spent k u rest e =
            let a = ap (λ x. x.answer) e in
            let p : r ≡ stopped_at OutOfBudget (0 + k) u = cc in
            (told_so OutOfBudget k u p rest.1, path_back k u (ap (λ x. x.steps) p) (ap (λ x. x.state) e) rest.1)
        by (bad f) k u rest e =
            let a = ap (λ x. x.answer) e in
            let p : r ≡ stopped_at f (0 + k) u = cc in
            (told_so f k u p rest.1, path_back k u (ap (λ x. x.steps) p) (ap (λ x. x.state) e) rest.1)
