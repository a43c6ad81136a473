-- copy and uncopy undo one another, and swap undoes itself.
use Rattle.std.proofs.Common.{◌≡◌, ℕ, true, pos, Ok, Result, sym, refl, ap, ◌∙◌, ap₂}
use Rattle.rules.specs.Answer.{◌>>=◌, need}
use Rattle.rules.specs.Word.{eq_z}
use Rattle.rules.specs.Script.{Script, line_at}
use Rattle.rules.specs.Step.{State, find, read, write, go, go_to, past, flipped, copied, uncopied, swapped}
use Rattle.rules.specs.declared.Spot.{Spot}
use Rattle.laws.proofs.Chains.{ok_same, passed, held}
use Rattle.laws.proofs.Cells.{eq_z_true, eq_z_from}
use Rattle.laws.proofs.Lens.{Within, read_same, read_other, write_same, write_read, exchange, exchange_twice}
use Rattle.laws.proofs.Back.{At, Undone}
use Rattle.rules.specs.declared.Refusal.{Refusal}

module _ (sc : Script) (l : ℕ) (s : State) (u w : Spot) (first : find s (line_at sc.lines l).x ≡ Ok u) (second : find s (line_at sc.lines l).y ≡ Ok w) where
  copied_at : eq_z (read s w) (pos 0) ≡ true → copied sc l s ≡ go l (write w (read s u) s)
  unfolding ◌>>=◌ need
  copied_at h = rw (first, second, h)

  uncopied_at : eq_z (read s w) (read s u) ≡ true → uncopied sc l s ≡ go l (write w (pos 0) s)
  unfolding ◌>>=◌ need
  uncopied_at h = rw (first, second, h)

  swapped_at : swapped sc l s ≡ go l (write w (read s u) (write u (read s w) s))
  unfolding ◌>>=◌
  swapped_at = rw (first, second)

-- a state that came to another one, and back to itself, stands where it stood
back_at : (l : ℕ) (s c : State) → At l s → c ≡ s → ◌≡◌ {A = Result State Refusal} (Ok (go_to (past (flipped s).forward l) (flipped c))) (Ok (flipped s))
back_at l s c here e = ap₂ {C = Result State Refusal} (λ p c. Ok (go_to p (flipped c))) (sym here) e

module _ (sc : Script) (l : ℕ) (s t : State) (u w : Spot) (here : At l s)
    (first : find s (line_at sc.lines l).x ≡ Ok u) (second : find s (line_at sc.lines l).y ≡ Ok w) (in₁ : Within s u) (in₂ : Within s w) where
  came : State → State
  came c = flipped (go_to (past s.forward l) c)

  pub copied_back : (u ≡ w → ⊥) → copied sc l s ≡ Ok t → Undone (uncopied sc l) l s t
  unfolding came
  copied_back apart e =
      passed _ _ e λ u' at₁ rest.
      passed _ _ (rw (ok_same (sym at₁ ∙ first)) at rest) λ w' at₂ rest.
      held _ _ _ (rw (ok_same (sym at₂ ∙ second)) at rest) λ nil last.
      let v = read s u in
      let seen : read (write w v s) w ≡ read (write w v s) u = read_same s w v in₂ ∙ sym (read_other s w u v (λ e. apart (sym e))) in
      rw (sym (ok_same last)) (
        refl,
        refl,
        uncopied_at sc l (came (write w v s)) u w first second (eq_z_from _ _ seen)
            ∙ back_at l s (write w (pos 0) (write w v s)) here (write_same s w (pos 0) v ∙ ap (λ a. write w a s) (sym (eq_z_true _ _ nil)) ∙ write_read s w),
      )

  pub uncopied_back : (u ≡ w → ⊥) → uncopied sc l s ≡ Ok t → Undone (copied sc l) l s t
  unfolding came
  uncopied_back apart e =
      passed _ _ e λ u' at₁ rest.
      passed _ _ (rw (ok_same (sym at₁ ∙ first)) at rest) λ w' at₂ rest.
      held _ _ _ (rw (ok_same (sym at₂ ∙ second)) at rest) λ same last.
      let c = write w (pos 0) s in
      rw (sym (ok_same last)) (
        refl,
        refl,
        copied_at sc l (came c) u w first second (eq_z_from _ _ (read_same s w (pos 0) in₂))
            ∙ back_at l s (write w (read c u) c) here
            (write_same s w (read c u) (pos 0) ∙ ap (λ a. write w a s) (read_other s w u (pos 0) (λ e. apart (sym e)) ∙ sym (eq_z_true _ _ same)) ∙ write_read s w),
      )

  pub swapped_back : swapped sc l s ≡ Ok t → Undone (swapped sc l) l s t
  unfolding came
  swapped_back e =
      passed _ _ e λ u' at₁ rest.
      passed _ _ (rw (ok_same (sym at₁ ∙ first)) at rest) λ w' at₂ rest.
      rw (sym (ok_same (rw (ok_same (sym at₂ ∙ second)) at rest)))
      (refl, refl, swapped_at sc l (came (exchange u w s)) u w first second ∙ back_at l s (exchange u w (exchange u w s)) here (exchange_twice s u w in₁ in₂))
