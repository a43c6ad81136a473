-- A table made by a closure that each call leaves as it was.
use Rattle.std.proofs.Common.{◌≡◌, ℕ, zero, suc, ◌+◌, ◌<◌, ◌≤◌, List, get_or, sym, refl, subst, ⊎_elim, arith}
use Rattle.std.proofs.lemmas.Bool.{cases_eq}
use Rattle.std.specs.Fn.{Called, Mut}
use Rattle.std.specs.Array.{IsFromFnResultFrom, IsFromFnResult}

module _ {F B : Type 0} (g : Mut F (ℕ × Unit {0}) B) (f : F) (P : ℕ → B → Type 0) (ys : List B) (d : B) (says : (k : ℕ) (y : B) (q : F) → Called g f (k, tt) y q → P k y × (q ≡ f)) where
  made : (i n : ℕ) (p : F) → p ≡ f → IsFromFnResultFrom g p ys i n → (k : ℕ) → i ≤ k → k < i + n → P k (get_or ys k d)
  made i zero p e r k low high = absurd (omega arith)
  made i (suc n) p e r k low high =
      let one = says i r.1 r.0 (subst (λ (p : F). Called g p (i, tt) r.1 r.0) e r.3) in
      ⊎_elim
      (λ same. subst (λ j. P j (get_or ys j d)) (sym same) (subst (P i) (sym (r.2.1 d)) one.0))
      (λ other. made (i + 1) n r.0 one.1 r.4 k (omega arith) (omega arith))
      (cases_eq k i)

  pub made_at : {n : ℕ} → IsFromFnResult g f ys n → (k : ℕ) → k < n → P k (get_or ys k d)
  made_at {n} m k h = made 0 n f refl m.each k (omega arith) (omega arith)
