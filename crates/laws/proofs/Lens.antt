-- Reading and writing spots of a state.
use Rattle.std.proofs.Common.{◌≡◌, ℕ, ◌<◌, ◌⊎◌, length, ℤ, pos, sym, refl, ap, ◌∙◌, ap₂, inl, inr, ⊎_elim, arith, length-set}
use native.Mathlib.Decide.{ℕ_discrete}
use Rattle.std.proofs.lemmas.List.{set-set, set_comm, set-get_or, get_or-set_same, get_or-set_other}
use Rattle.rules.specs.Step.{State, read, write, with_book, with_locals}
use Rattle.rules.specs.declared.Spot.{Spot}
use Rattle.rules.specs.declared.Spot.TheVariants.{InBook, InLocals}

-- the spot is one of the state's
abbrev pub Within : State → Spot → Type 0
Within s (InBook w) = w < length s.book
Within s (InLocals i) = i < length s.locals

pub read_same : (s : State) (u : Spot) (v : ℤ) → Within s u → read (write u v s) u ≡ v
read_same s (InBook w) v h = get_or-set_same s.book w v (pos 0) h
read_same s (InLocals i) v h = get_or-set_same s.locals i v (pos 0) h

pub read_other : (s : State) (u w : Spot) (v : ℤ) → (u ≡ w → ⊥) → read (write u v s) w ≡ read s w
read_other s (InBook i) (InBook j) v n = get_or-set_other s.book i j v (pos 0) (λ e. n (ap InBook (sym e)))
read_other s (InBook i) (InLocals j) v n = refl
read_other s (InLocals i) (InBook j) v n = refl
read_other s (InLocals i) (InLocals j) v n = get_or-set_other s.locals i j v (pos 0) (λ e. n (ap InLocals (sym e)))

pub write_same : (s : State) (u : Spot) (a b : ℤ) → write u a (write u b s) ≡ write u a s
write_same s (InBook w) a b = ap (λ c. with_book c s) (set-set s.book w b a)
write_same s (InLocals i) a b = ap (λ c. with_locals c s) (set-set s.locals i b a)

pub write_read : (s : State) (u : Spot) → write u (read s u) s ≡ s
write_read s (InBook w) = ap (λ c. with_book c s) (set-get_or s.book w (pos 0))
write_read s (InLocals i) = ap (λ c. with_locals c s) (set-get_or s.locals i (pos 0))

pub write_swap : (s : State) (u w : Spot) (a b : ℤ) → (u ≡ w → ⊥) → write u a (write w b s) ≡ write w b (write u a s)
write_swap s (InBook i) (InBook j) a b n = ap (λ c. with_book c s) (set_comm s.book j i b a (λ e. n (ap InBook (sym e))))
write_swap s (InBook i) (InLocals j) a b n = refl
write_swap s (InLocals i) (InBook j) a b n = refl
write_swap s (InLocals i) (InLocals j) a b n = ap (λ c. with_locals c s) (set_comm s.locals j i b a (λ e. n (ap InLocals (sym e))))

pub spots : (u w : Spot) → (u ≡ w) ⊎ (u ≡ w → ⊥)
spots (InBook i) (InBook j) = elim (ℕ_discrete i j) [ yes e ↦ inl (ap InBook e) | no n ↦ inr (λ e. n (cc)) ]
spots (InBook i) (InLocals j) = inr (λ e. let z : ◌≡◌ {A = ℕ} 0 1 = cc in omega arith)
spots (InLocals i) (InBook j) = inr (λ e. let z : ◌≡◌ {A = ℕ} 0 1 = cc in omega arith)
spots (InLocals i) (InLocals j) = elim (ℕ_discrete i j) [ yes e ↦ inl (ap InLocals e) | no n ↦ inr (λ e. n (cc)) ]

pub within_write : (s : State) (u w : Spot) (v : ℤ) → Within s w → Within (write u v s) w
within_write s (InBook i) (InBook j) v h = rw (length-set s.book i v) h
within_write s (InBook i) (InLocals j) v h = h
within_write s (InLocals i) (InBook j) v h = h
within_write s (InLocals i) (InLocals j) v h = rw (length-set s.locals i v) h

-- two words exchanged
abbrev pub exchange : Spot → Spot → State → State
exchange u w s = write w (read s u) (write u (read s w) s)

exchange_same : (s : State) (u : Spot) → exchange u u s ≡ s
exchange_same s u = write_same s u (read s u) (read s u) ∙ write_read s u

pub exchange_twice : (s : State) (u w : Spot) → Within s u → Within s w → exchange u w (exchange u w s) ≡ s
exchange_twice s u w h k = ⊎_elim same differ (spots u w)
  where
    same : u ≡ w → exchange u w (exchange u w s) ≡ s
    same e = rw (sym e) (ap (exchange u u) (exchange_same s u) ∙ exchange_same s u)

    differ : (u ≡ w → ⊥) → exchange u w (exchange u w s) ≡ s
    differ n =
        let a = read s u in
        let b = read s w in
        let c = write w a (write u b s) in
        let at-w : read c w ≡ a = read_same (write u b s) w a (within_write s u w b k) in
        let at-u : read c u ≡ b = read_other (write u b s) w u a (λ e. n (sym e)) ∙ read_same s u b h in
        ap₂ (λ p q. write w p (write u q c)) at-u at-w
        ∙ ap (write w b) (write_swap (write u b s) u w a a n)
        ∙ write_same (write u a (write u b s)) w b a
        ∙ ap (write w b) (write_same s u a b ∙ write_read s u)
        ∙ write_read s w
