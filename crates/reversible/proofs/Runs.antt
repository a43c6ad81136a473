-- The laws of whole runs, from the laws of one step.
use Rattle.std.proofs.Common.{◌≡◌, ℕ, zero, suc, ◌≤◌, Bool, true, false, T, sym, refl, ap, ◌∙◌, subst, suc-le-suc, zero-le, le_refl, le_of_suc-le-suc, not-suc-le-zero, arith}
use Rattle.reversible.specs.Machine.{Machine, Lawful, Dir, fwd, bwd, other, Next, finish, go, stop, How, ended, spent, bad, bump, at_rest, onward, Outcome, done, refused, pick, walk, undo, outcome, conclude, run_from, run}
use Rattle.reversible.specs.Laws.{Restores, Budgets, Agrees, Undoes, Separates, RunLaws}

module _ {S B R : Type 0} (m : Machine S B R) where
  -- n steps lead from s to t
  abbrev pub Steps : ℕ → S → S → Type 0
  Steps zero s t = s ≡ t
  Steps (suc n) s t = (u : S) × (m.step s ≡ go u) × Steps n u t

  pub then_step : (n : ℕ) (s t u : S) → Steps n s t → m.step t ≡ go u → Steps (suc n) s u
  then_step zero s t u e h = (u, rw e h, refl)
  then_step (suc n) s t u r h = (r.0, r.1, then_step n r.0 t u r.2 h)

  -- n steps fit into a walk with a budget of at least n
  pub walk_ends : (b n : ℕ) (s t : S) → n ≤ b → Steps n s t → m.step t ≡ finish → walk m b s ≡ record { how = ended; steps = n; state = t }
  walk_ends zero zero s t l r h = rw (r, h)
  walk_ends (suc b) zero s t l r h = rw (r, h)
  walk_ends zero (suc n) s t l r h = absurd (not-suc-le-zero l)
  walk_ends (suc b) (suc n) s t l r h = ap (onward s (walk m b)) r.1 ∙ ap bump (walk_ends b n r.0 t (le_of_suc-le-suc l) r.2 h)

  at_rest_state : (s : S) (x : Next S R) → (at_rest s x).state ≡ s
  at_rest_state s finish = refl
  at_rest_state s (go t) = refl
  at_rest_state s (stop c) = refl

  -- the state after n steps
  pub walk_state : (n : ℕ) (s t : S) → Steps n s t → (walk m n s).state ≡ t
  walk_state zero s t r = at_rest_state s (m.step s) ∙ r
  walk_state (suc n) s t r = ap (λ x. (onward s (walk m n) x).state) r.1 ∙ walk_state n r.0 t r.2

  -- what a walk that came to rest says
  abbrev pub Rests : How R → ℕ → ℕ → S → S → Type 0
  Rests ended b n s t = (n ≤ b) × Steps n s t × (m.step t ≡ finish)
  Rests spent b n s t = (n ≡ b) × Steps n s t × Unit {0}
  Rests (bad c) b n s t = (n ≤ b) × Steps n s t × (m.step t ≡ stop c)

  further : (h : How R) (b n : ℕ) (s u t : S) → m.step s ≡ go u → Rests h b n u t → Rests h (suc b) (suc n) s t
  further ended b n s u t e r = (suc-le-suc r.0, (u, e, r.1), r.2)
  further spent b n s u t e r = (ap suc r.0, (u, e, r.1), tt)
  further (bad c) b n s u t e r = (suc-le-suc r.0, (u, e, r.1), r.2)

  pub walk_rests : (b : ℕ) (s : S) → Rests (walk m b s).how b (walk m b s).steps s (walk m b s).state
  walk_rests zero s = by (m.step s) refl
    where
      by : (x : Next S R) → m.step s ≡ x → Rests (at_rest s x).how zero (at_rest s x).steps s (at_rest s x).state
      by finish e = (zero-le, refl, e)
      by (go t) e = (refl, refl, tt)
      by (stop c) e = (refl, refl, tt)
  walk_rests (suc b) s = by (m.step s) refl (walk_rests b)
    where
      by : (x : Next S R) → m.step s ≡ x → ((u : S) → Rests (walk m b u).how b (walk m b u).steps u (walk m b u).state) → Rests (onward s (walk m b) x).how (suc b) (onward s (walk m b) x).steps s (onward s (walk m b) x).state
      by finish e ih = (zero-le, refl, e)
      by (go u) e ih = further (walk m b u).how b (walk m b u).steps s u (walk m b u).state e (ih u)
      by (stop c) e ih = (zero-le, refl, e)

  -- a finished run, taken apart
  pub record Finished (q : ℕ) (d : Dir) (a b : B) (budget n : ℕ) : Type 0 where
    pub is_book_lem : T (m.is_book a)
    pub has_q : T (m.has q)
    pub fits : n ≤ budget
    pub last : S
    pub path : Steps n (m.enter q d a) last
    pub end : m.step last ≡ finish
    pub after : m.book last ≡ b

  pub never : {X : Type 0} (c : R) (l k n : ℕ) (a b : B) → ◌≡◌ {A = Outcome B R} (refused c l k a) (done n b) → X
  never c l k n a b e = absurd (let z : ◌≡◌ {A = ℕ} 0 1 = cc in omega arith)

  -- a value of Outcome as done or not
  outcome_done : (h : How R) (budget k n : ℕ) (s t : S) (b : B) → Rests h budget k s t → outcome m h k t ≡ done n b → (k ≡ n) × (m.book t ≡ b) × (k ≤ budget) × Steps k s t × (m.step t ≡ finish)
  outcome_done ended budget k n s t b r e = (cc, cc, r.0, r.1, r.2)
  outcome_done spent budget k n s t b r e = never m.no_budget (m.line t) k n (m.book (undo m k t)) b e
  outcome_done (bad c) budget k n s t b r e = never c (m.line t) k n (m.book (undo m k t)) b e

  pub finished : (q : ℕ) (d : Dir) (a b : B) (budget n : ℕ) → run m q d a budget ≡ done n b → Finished q d a b budget n
  finished q d a b budget n e = by (m.is_book a) refl (m.has q) refl e
    where
      by : (v : Bool) → m.is_book a ≡ v → (w : Bool) → m.has q ≡ w → pick v (pick w (run_from m budget (m.enter q d a)) (refused m.no_method 0 0 a)) (refused m.no_book 0 0 a) ≡ done n b → Finished q d a b budget n
      by false ev w ew e = never m.no_book 0 0 n a b e
      by true ev false ew e = never m.no_method 0 0 n a b e
      by true ev true ew e =
          let s : S = m.enter q d a in
          let w = walk m budget s in
          let r = outcome_done w.how budget w.steps n s w.state b (walk_rests budget s) e in
          record {
            is_book_lem = rw ev tt;
            has_q = rw ew tt;
            fits = rw (← r.0) r.2;
            last = w.state;
            path = rw r.0 at r.3;
            end = r.4;
            after = r.1;
          }

  pub T_true : (v : Bool) → T v → v ≡ true
  T_true true t = refl
  T_true false t = absurd t

  pub run_from_enter : (q : ℕ) (d : Dir) (a : B) (budget : ℕ) → T (m.is_book a) → T (m.has q) → run m q d a budget ≡ run_from m budget (m.enter q d a)
  run_from_enter q d a budget t h = rw (T_true (m.is_book a) t, T_true (m.has q) h)

  pub finishes : (q : ℕ) (d : Dir) (a b : B) (budget n : ℕ) → Finished q d a b budget n → run m q d a budget ≡ done n b
  finishes q d a b budget n f =
      let s : S = m.enter q d a in
      let e = walk_ends budget n s f.last f.fits f.path f.end in
      run_from_enter q d a budget f.is_book_lem f.has_q
      ∙ ap (conclude m) e ∙ ap (done n) f.after

module _ {S B R : Type 0} (m : Machine S B R) (Inv : ℕ → Dir → S → Type 0) (L : Lawful m Inv) where
  pub steps_inv : (n q : ℕ) (d : Dir) (s t : S) → Inv q d s → Steps m n s t → Inv q d t
  steps_inv zero q d s t i r = subst (Inv q d) r i
  steps_inv (suc n) q d s t i r = steps_inv n q d r.0 t (L.inv_step q d s r.0 i r.1) r.2

  -- a way there is a way back
  pub steps_back : (n q : ℕ) (d : Dir) (s t : S) → Inv q d s → Steps m n s t → Steps m n (m.flip t) (m.flip s)
  steps_back zero q d s t i r = ap m.flip (sym r)
  steps_back (suc n) q d s t i r =
      then_step m n (m.flip t) (m.flip r.0) (m.flip s)
      (steps_back n q d r.0 t (L.inv_step q d s r.0 i r.1) r.2)
      (L.reverse q d s r.0 i r.1)

  pub undo_back : (n q : ℕ) (d : Dir) (s t : S) → Inv q d s → Steps m n s t → undo m n t ≡ s
  undo_back n q d s t i r = ap m.flip (walk_state m n (m.flip t) (m.flip s) (steps_back n q d s t i r)) ∙ L.flip_flip q d s i

  -- a refused run, by how its walk came to rest
  rolled : (h : How R) (budget k q : ℕ) (d : Dir) (s t : S) (b : B) (c : R) (l n : ℕ) → Inv q d s → Rests m h budget k s t → outcome m h k t ≡ refused c l n b → b ≡ m.book s
  rolled ended budget k q d s t b c l n i r e = never m c l n k b (m.book t) (sym e)
  rolled spent budget k q d s t b c l n i r e =
      let u = undo_back k q d s t i r.1 in
      let f : m.book (undo m k t) ≡ b = cc in
      sym f ∙ ap m.book u
  rolled (bad x) budget k q d s t b c l n i r e =
      let u = undo_back k q d s t i r.1 in
      let f : m.book (undo m k t) ≡ b = cc in
      sym f ∙ ap m.book u

  pub restores : Restores m
  restores q d a b budget c l n e = by (m.is_book a) refl (m.has q) refl e
    where
      by : (v : Bool) → m.is_book a ≡ v → (w : Bool) → m.has q ≡ w → pick v (pick w (run_from m budget (m.enter q d a)) (refused m.no_method 0 0 a)) (refused m.no_book 0 0 a) ≡ refused c l n b → b ≡ a
      by false ev w ew e = cc
      by true ev false ew e = cc
      by true ev true ew e =
          let s : S = m.enter q d a in
          let w = walk m budget s in
          let i : Inv q d s = L.inv_enter q d a (rw ev tt) (rw ew tt) in
          rolled w.how budget w.steps q d s w.state b c l n i (walk_rests m budget s) e ∙ L.book_enter q d a

  pub budgets : Budgets m
  budgets q d a b budget n = (there, back)
    where
      there : run m q d a budget ≡ done n b → (n ≤ budget) × (run m q d a n ≡ done n b)
      there e =
          let f = finished m q d a b budget n e in
          (f.fits, finishes m q d a b n n (record { is_book_lem = f.is_book_lem; has_q = f.has_q; fits = le_refl n; last = f.last; path = f.path; end = f.end; after = f.after }))

      back : (n ≤ budget) × (run m q d a n ≡ done n b) → run m q d a budget ≡ done n b
      back p =
          let f = finished m q d a b n n p.1 in
          finishes m q d a b budget n (record { is_book_lem = f.is_book_lem; has_q = f.has_q; fits = p.0; last = f.last; path = f.path; end = f.end; after = f.after })

  pub undone : (q : ℕ) (d : Dir) (a b : B) (n : ℕ) → run m q d a n ≡ done n b → run m q (other d) b n ≡ done n a
  undone q d a b n e =
      let f = finished m q d a b n n e in
      let s : S = m.enter q d a in
      let i : Inv q d s = L.inv_enter q d a f.is_book_lem f.has_q in
      let j : Inv q d f.last = steps_inv n q d s f.last i f.path in
      let p : m.flip f.last ≡ m.enter q (other d) b = L.ends q d f.last j f.end ∙ ap (m.enter q (other d)) f.after in
      finishes m q (other d) b a n n
      (record {
        is_book_lem = subst (λ (x : B). T (m.is_book x)) f.after (L.inv_book q d f.last j);
        has_q = f.has_q;
        fits = le_refl n;
        last = m.flip s;
        path = subst (λ (x : S). Steps m n x (m.flip s)) p (steps_back n q d s f.last i f.path);
        end = L.starts q d a f.is_book_lem f.has_q;
        after = L.book_flip s ∙ L.book_enter q d a;
      })

  other_other : (d : Dir) → other (other d) ≡ d
  other_other fwd = refl
  other_other bwd = refl

  pub undoes : Undoes m
  undoes q d a b n = (undone q d a b n, λ e. subst (λ (x : Dir). run m q x a n ≡ done n b) (other_other d) (undone q (other d) b a n e))

  -- one way has one end
  same_end : (n n' : ℕ) (s t t' : S) → Steps m n s t → m.step t ≡ finish → Steps m n' s t' → m.step t' ≡ finish → (n ≡ n') × (t ≡ t')
  same_end zero zero s t t' r e r' e' = (refl, sym r ∙ r')
  same_end zero (suc n') s t t' r e r' e' = absurd (let f = r'.1 in let z : ◌≡◌ {A = ℕ} 0 1 = cc in omega arith)
  same_end (suc n) zero s t t' r e r' e' = absurd (let f = r.1 in let z : ◌≡◌ {A = ℕ} 0 1 = cc in omega arith)
  same_end (suc n) (suc n') s t t' r e r' e' =
      let f = r.1 in
      let f' = r'.1 in
      let g : r'.0 ≡ r.0 = cc in
      let h = same_end n n' r.0 t t' r.2 e (subst (λ (x : S). Steps m n' x t') g r'.2) e' in
      (ap suc h.0, h.1)

  pub agrees : Agrees m
  agrees q d a b b' c c' n n' e e' =
      let f = finished m q d a b c n e in
      let f' = finished m q d a b' c' n' e' in
      let h = same_end n n' (m.enter q d a) f.last f'.last f.path f.end f'.path f'.end in
      (h.0, sym f.after ∙ ap m.book h.1 ∙ f'.after)

  pub separates : Separates m
  separates q d a a' b b' c c' n n' e e' = (there, back)
    where
      there : a ≡ a' → b ≡ b'
      there p = (agrees q d a b b' c c' n n' e (rw p e')).1

      back : b ≡ b' → a ≡ a'
      back p =
          let h = undone q d a b n ((budgets q d a b c n).0 e).1 in
          let h' = undone q d a' b' n' ((budgets q d a' b' c' n').0 e').1 in
          (agrees q (other d) b a a' n n' n n' h (rw p h')).1

  pub run_laws : RunLaws m
  run_laws = record { restores = restores; budgets = budgets; agrees = agrees; undoes = undoes; separates = separates }
