-- local and delocal undo one another.
use Rattle.std.proofs.Common.{◌≡◌, ℕ, zero, suc, ◌+◌, ◌-◌, ◌<◌, ◌≤◌, true, ltb, List, [], ◌∷◌, ◌++◌, length, get_or, take, ℤ, pos, Ok, Result, sym, refl, ap, ◌∙◌, ap₂, arith}
use Rattle.std.specs.List.{AllByRecursion}
use Rattle.std.proofs.lemmas.List.{length_push, get_or_push, get_or_append_left, get_or-take, take_at, take_more, take_all, length-take-le}
use Rattle.std.proofs.lemmas.Bool.{and_parts, ltb-true, lt-ltb}
use Rattle.rules.specs.Answer.{◌>>=◌, need}
use Rattle.rules.specs.Script.{Script, line_at, terms_of}
use Rattle.rules.specs.Check.{known, reaches}
use Rattle.rules.specs.Step.{State, in_record, read, value, see, base, with_locals, go, go_to, past, flipped, opened, closed}
use Rattle.rules.specs.declared.Place.{Place}
use Rattle.rules.specs.declared.Place.TheVariants.{None, M, R, N, F, V}
use Rattle.rules.specs.declared.Term.{Term}
use Rattle.laws.proofs.Chains.{ok_same, passed, held}
use Rattle.laws.proofs.Cells.{eq_z_true, eq_z_from}
use Rattle.laws.proofs.Places.{Sound, Agree, worked_same}
use Rattle.laws.proofs.Back.{At, Undone}
use Rattle.rules.specs.declared.Refusal.{Refusal}

-- two lists of locals that are alike up to the d-th of the present frame
module _ (s : State) (ls : List ℤ) (d : ℕ) (alike : (i : ℕ) → i < base s.frames + d → get_or ls i (pos 0) ≡ get_or s.locals i (pos 0)) where
  in_record_lem : (k i : ℕ) → (in_record k i >>= λ w. Ok (read (with_locals ls s) w)) ≡ (in_record k i >>= λ w. Ok (read s w))
  unfolding ◌>>=◌
  in_record_lem zero i = refl
  in_record_lem (suc k) i = refl

  see_locals : (p : Place) → reaches d p ≡ true → see (with_locals ls s) p ≡ see s p
  unfolding ◌>>=◌
  see_locals None h = refl
  see_locals (M i) h = refl
  see_locals (R i) h = refl
  see_locals (N i) h = in_record_lem s.present i
  see_locals (F i) h = in_record_lem s.present (4 + i)
  see_locals (V i) h = ap {B = Result ℤ Refusal} Ok (alike (base s.frames + i) (omega (arith, ltb-true i d h)))

  agree_locals : (ts : List Term) → AllByRecursion (Sound d) ts → AllByRecursion (Agree (see (with_locals ls s)) (see s)) ts
  agree_locals [] h = tt
  agree_locals (t ∷ ts) h = (
    (
      see_locals t.first (and_parts (known t.first) _ h.0.0).1,
      see_locals t.second (and_parts (known t.second) _ h.0.1).1,
    ),
    agree_locals ts h.1,
  )

  value_locals : (sc : Script) (l : ℕ) → AllByRecursion (Sound d) (terms_of sc.terms (line_at sc.lines l)) → value sc (with_locals ls s) l ≡ value sc s l
  value_locals sc l h = let ts = terms_of sc.terms (line_at sc.lines l) in worked_same (see (with_locals ls s)) (see s) ts [] (agree_locals ts h)

module _ (sc : Script) (l : ℕ) (s : State) (v : ℤ) (val : value sc s l ≡ Ok v) where
  opened_at : ltb (length s.locals) 256 ≡ true → opened sc l s ≡ go l (with_locals (s.locals ++ (v ∷ [])) s)
  unfolding ◌>>=◌ need
  opened_at h = rw (h, val)

  closed_at : (n : ℕ) → length s.locals ≡ suc n → get_or s.locals n (pos 0) ≡ v → closed sc l s ≡ go l (with_locals (take n s.locals) s)
  unfolding ◌>>=◌ need
  closed_at n e h =
      let m : length s.locals - 1 ≡ n = omega arith in
      rw (val, m, eq_z_from (get_or s.locals n (pos 0)) v h)

module _ (sc : Script) (l : ℕ) (s t : State) (d : ℕ) (here : At l s) (form : AllByRecursion (Sound d) (terms_of sc.terms (line_at sc.lines l))) where
  came : State → State
  came c = flipped (go_to (past s.forward l) c)

  pub opened_back : length s.locals ≡ base s.frames + d → opened sc l s ≡ Ok t → Undone (closed sc l) l s t
  unfolding came
  opened_back deep e =
      held _ _ _ e λ few rest.
      passed _ _ rest λ v val last.
      let ls = s.locals ++ (v ∷ []) in
      let kept = value_locals s ls d (λ i h. get_or_append_left s.locals (v ∷ []) (pos 0) i (omega arith)) sc l form in
      rw (sym (ok_same last)) (
        refl,
        refl,
        closed_at sc l (came (with_locals ls s)) v (kept ∙ val) (length s.locals) (length_push s.locals v ∙ omega arith) (get_or_push s.locals v (pos 0) (length s.locals) refl)
            ∙ ap₂ {C = Result State Refusal} (λ p c. Ok (go_to p (with_locals c (flipped s)))) (sym here) (take_at s.locals (v ∷ []) (length s.locals) refl),
      )

  -- the local that closes is the d-th; 256 are open at most
  pub closed_back : length s.locals ≡ base s.frames + suc d → length s.locals ≤ 256 → closed sc l s ≡ Ok t → Undone (opened sc l) l s t
  unfolding came
  closed_back deep few e =
      passed _ _ e λ v val rest.
      held _ _ _ rest λ same last.
      let n = length s.locals - 1 in
      let ls = take n s.locals in
      let kept = value_locals s ls d (λ i h. get_or-take n s.locals i (pos 0) (omega arith)) sc l form in
      rw (sym (ok_same last)) (
        refl,
        refl,
        opened_at sc l (came (with_locals ls s)) v (kept ∙ val) (lt-ltb _ 256 (simp (length-take-le n s.locals (omega arith)) (omega arith)))
            ∙ ap₂ {C = Result State Refusal} (λ p c. Ok (go_to p (with_locals c (flipped s)))) (sym here)
            (ap (λ a. take n s.locals ++ (a ∷ [])) (sym (eq_z_true _ _ same)) ∙ sym (take_more s.locals n (pos 0) (omega arith)) ∙ take_all (n + 1) s.locals (omega arith)),
      )
