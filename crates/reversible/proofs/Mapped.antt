-- Runs of a machine and of one that its states are mapped to.
use Rattle.std.proofs.Common.{◌≡◌, ℕ, zero, suc, T, sym, refl, ap, ◌∙◌, subst}
use Rattle.reversible.specs.Machine.{Machine, Lawful, Maps, Dir, fwd, bwd, other, Next, finish, go, stop, How, ended, spent, bad, Walk, bump, at_rest, onward, done, walk, undo, outcome, conclude, run, map_next, map_outcome, Any}
use Rattle.reversible.specs.Laws.{Restores, Turns, Carries}
use Rattle.reversible.proofs.Runs.{finished, never, undone, walk_rests, run_from_enter, Rests, Steps}

-- a walk, with its state mapped
abbrev map_walk : {S S' R : Type 0} → (S → S') → Walk S R → Walk S' R
map_walk f w = record { how = w.how; steps = w.steps; state = f w.state }

mapped_at_rest : {S S' R : Type 0} (f : S → S') (s : S) (x : Next S R) → at_rest (f s) (map_next f x) ≡ map_walk f (at_rest s x)
mapped_at_rest f s finish = refl
mapped_at_rest f s (go t) = refl
mapped_at_rest f s (stop c) = refl

module _ {S B S' B' R : Type 0} (m : Machine S B R) (m' : Machine S' B' R) (From : B → Type 0) (J : ℕ → Dir → S → Type 0) (turns : Dir → Dir) (ln : ℕ → ℕ) (f : S → S') (g : B → B') (M : Maps m m' From J turns ln f g) where
  walk_maps : (b q : ℕ) (d : Dir) (s : S) → J q d s → walk m' b (f s) ≡ map_walk f (walk m b s)
  walk_maps zero q d s i = ap (at_rest (f s)) (M.step q d s i) ∙ mapped_at_rest f s (m.step s)
  walk_maps (suc b) q d s i = ap (onward (f s) (walk m' b)) (M.step q d s i) ∙ by (m.step s) refl (walk_maps b q d)
    where
      by : (x : Next S R) → m.step s ≡ x → ((u : S) → J q d u → walk m' b (f u) ≡ map_walk f (walk m b u)) → onward (f s) (walk m' b) (map_next f x) ≡ map_walk f (onward s (walk m b) x)
      by finish e ih = refl
      by (go u) e ih = ap bump (ih u (M.inv_step q d s u i e))
      by (stop c) e ih = refl

  -- the walk of the second machine, from its own entry
  entered : (b q : ℕ) (d : Dir) (a : B) → From a → T (m.is_book a) → T (m.has q) → walk m' b (m'.enter q (turns d) (g a)) ≡ map_walk f (walk m b (m.enter q d a))
  entered b q d a o t h = ap (walk m' b) (M.enter q d a o t h) ∙ walk_maps b q d (m.enter q d a) (M.inv_enter q d a o t h)

  steps_kept : (n q : ℕ) (d : Dir) (s t : S) → J q d s → Steps m n s t → J q d t
  steps_kept zero q d s t i r = subst (J q d) r i
  steps_kept (suc n) q d s t i r = steps_kept n q d r.0 t (M.inv_step q d s r.0 i r.1) r.2

  kept : (q : ℕ) (d : Dir) (b : ℕ) (s t : S) (h : How R) (k : ℕ) → J q d s → Rests m h b k s t → J q d t
  kept q d b s t ended k i r = steps_kept k q d s t i r.1
  kept q d b s t spent k i r = steps_kept k q d s t i r.1
  kept q d b s t (bad c) k i r = steps_kept k q d s t i r.1

  walk_kept : (q : ℕ) (d : Dir) (b : ℕ) (s : S) → J q d s → J q d (walk m b s).state
  walk_kept q d b s i = kept q d b s (walk m b s).state (walk m b s).how (walk m b s).steps i (walk_rests m b s)

  -- a finished run of the second machine from a mapped book comes from one of the first
  outcome_from : (q : ℕ) (d : Dir) (h : How R) (k n : ℕ) (t : S) (y : B') → J q d t → outcome m' h k (f t) ≡ done n y → (x : B) × (outcome m h k t ≡ done n x) × (g x ≡ y)
  outcome_from q d ended k n t y i e =
      let p = M.book q d t i in
      let j : k ≡ n = cc in
      (m.book t, ap (λ (x : ℕ). done x (m.book t)) j, cc)
  outcome_from q d spent k n t y i e = never m' m'.no_budget (m'.line (f t)) k n (m'.book (undo m' k (f t))) y e
  outcome_from q d (bad c) k n t y i e = never m' c (m'.line (f t)) k n (m'.book (undo m' k (f t))) y e

  outcome_to : (q : ℕ) (d : Dir) (h : How R) (k n : ℕ) (t : S) (x : B) → J q d t → outcome m h k t ≡ done n x → outcome m' h k (f t) ≡ done n (g x)
  outcome_to q d ended k n t x i e =
      let p = M.book q d t i in
      let j : k ≡ n = cc in
      let l : m.book t ≡ x = cc in
      cc (ap g l)
  outcome_to q d spent k n t x i e = never m m.no_budget (m.line t) k n (m.book (undo m k t)) x e
  outcome_to q d (bad c) k n t x i e = never m c (m.line t) k n (m.book (undo m k t)) x e

  -- the second machine's run, by the first one's walk
  by_walk : (q : ℕ) (d : Dir) (a : B) (b : ℕ) → From a → T (m.is_book a) → T (m.has q) →
      run m' q (turns d) (g a) b ≡ conclude m' (map_walk f (walk m b (m.enter q d a)))
  by_walk q d a b o t h = run_from_enter m' q (turns d) (g a) b (rw (M.is_book a o) t) (rw (M.has q) h) ∙ ap (conclude m') (entered b q d a o t h)

  pub run_to : (q : ℕ) (d : Dir) (a x : B) (b n : ℕ) → From a → run m q d a b ≡ done n x → run m' q (turns d) (g a) b ≡ done n (g x)
  run_to q d a x b n o e =
      let fin = finished m q d a x b n e in
      let t : T (m.is_book a) = fin.is_book_lem in
      let h : T (m.has q) = fin.has_q in
      let w = walk m b (m.enter q d a) in
      by_walk q d a b o t h
      ∙ outcome_to q d w.how w.steps n w.state x (walk_kept q d b (m.enter q d a) (M.inv_enter q d a o t h)) (sym (run_from_enter m q d a b t h) ∙ e)

  pub run_of : (q : ℕ) (d : Dir) (a : B) (y : B') (b n : ℕ) → From a → run m' q (turns d) (g a) b ≡ done n y → (x : B) × (run m q d a b ≡ done n x) × (g x ≡ y)
  run_of q d a y b n o e =
      let fin = finished m' q (turns d) (g a) y b n e in
      let t : T (m.is_book a) = rw (M.is_book a o) at fin.is_book_lem in
      let h : T (m.has q) = rw (M.has q) at fin.has_q in
      let w = walk m b (m.enter q d a) in
      let r = outcome_from q d w.how w.steps n w.state y (walk_kept q d b (m.enter q d a) (M.inv_enter q d a o t h)) (sym (by_walk q d a b o t h) ∙ e) in
      (r.0, run_from_enter m q d a b t h ∙ r.1, r.2)

  -- refused runs too, where both machines restore the book
  module _ (back : Restores m) (back' : Restores m') where
    alike : (q : ℕ) (d : Dir) (a : B) (b : ℕ) (h : How R) (k : ℕ) (t : S) → J q d t →
        run m q d a b ≡ outcome m h k t → run m' q (turns d) (g a) b ≡ outcome m' h k (f t) → outcome m' h k (f t) ≡ map_outcome ln g (outcome m h k t)
    alike q d a b ended k t j e e' = ap (done k) (M.book q d t j)
    alike q d a b spent k t j e e' =
        let x = back' q (turns d) (g a) (m'.book (undo m' k (f t))) b m'.no_budget (m'.line (f t)) k e' in
        let y = back q d a (m.book (undo m k t)) b m.no_budget (m.line t) k e in
        let z = M.line q d t j in
        let w = M.no_budget in
        cc (ap g y)
    alike q d a b (bad c) k t j e e' =
        let x = back' q (turns d) (g a) (m'.book (undo m' k (f t))) b c (m'.line (f t)) k e' in
        let y = back q d a (m.book (undo m k t)) b c (m.line t) k e in
        let z = M.line q d t j in
        cc (ap g y)

    pub carries : Carries m m' From turns ln g
    carries q d a b o t h =
        let s : S = m.enter q d a in
        let w = walk m b s in
        let e = by_walk q d a b o t h in
        let e₀ = run_from_enter m q d a b t h in
        e ∙ alike q d a b w.how w.steps w.state (walk_kept q d b s (M.inv_enter q d a o t h)) e₀ e ∙ ap (map_outcome ln g) (sym e₀)

-- the turned machine: its states are those of the first, seen from the other end
pub turns_round : {S B S' R : Type 0} (m : Machine S B R) (m' : Machine S' B R) (Inv : ℕ → Dir → S → Type 0) (L : Lawful m Inv) (ln : ℕ → ℕ) (f : S → S') → Maps m m' Any Inv other ln f (λ b. b) → Turns m m'
turns_round {S} {B} m m' Inv L ln f M q a b n = (there, back)
  where
    there : run m q fwd a n ≡ done n b → run m' q fwd b n ≡ done n a
    there e = run_to m m' Any Inv other ln f (λ b. b) M q bwd b a n n tt (undone m Inv L q fwd a b n e)

    back : run m' q fwd b n ≡ done n a → run m q fwd a n ≡ done n b
    back e =
        let o = run_of m m' Any Inv other ln f (λ b. b) M q bwd b a n n tt e in
        undone m Inv L q bwd b a n (subst (λ (x : B). run m q bwd b n ≡ done n x) o.2 o.1)
