-- A line turned twice is the line.
use Rattle.std.proofs.Common.{◌≡◌, ℕ, zero, suc, ◌+◌, ◌-◌, ◌<◌, ◌≤◌, Bool, true, false, cond, not, sym, refl, subst, ⊎_elim, arith}
use Rattle.std.proofs.lemmas.Bool.{le-ltb, cases_lt, cases_eq}
use Rattle.rules.specs.Script.{turned_kind}
use Rattle.rules.specs.Step.{met, past}

-- a statement about each of n numbers from i on
abbrev pub Each : (ℕ → Type 0) → ℕ → ℕ → Type 0
Each P i zero = Unit {0}
Each P i (suc n) = P i × Each P (suc i) n

pub each_at : (P : ℕ → Type 0) (i n k : ℕ) → Each P i n → i ≤ k → k < i + n → P k
each_at P i zero k h low high = absurd (omega arith)
each_at P i (suc n) k h low high =
    ⊎_elim (λ e. subst P e h.0) (λ ne. each_at P (suc i) n k h.1 (omega arith) (omega arith)) (cases_eq i k)

pub turned_twice : (k : ℕ) → turned_kind (turned_kind k) ≡ k
turned_twice k = ⊎_elim low high (cases_lt k 14)
  where
    P : ℕ → Type 0
    P k = turned_kind (turned_kind k) ≡ k

    low : k < 14 → P k
    low h = each_at P 0 14 k (refl, (refl, (refl, (refl, (refl, (refl, (refl, (refl, (refl, (refl, (refl, (refl, (refl, (refl, tt)))))))))))))) (omega arith) (omega arith)

    high : 14 ≤ k → P k
    high h = rw (le-ltb k 14 h, le-ltb k 14 h)

-- met the other way, a kind is its turned kind
pub met_turned : (fw : Bool) (kind : ℕ) → met (not fw) kind ≡ turned_kind (met fw kind)
met_turned true kind = refl
met_turned false kind = sym (turned_twice kind)

-- past line l, turned round, it is the turn of line l
pub turn_past : (fw : Bool) (l : ℕ) → cond (not fw) (past fw l) (past fw l - 1) ≡ l
turn_past true l = omega arith
turn_past false l = refl
