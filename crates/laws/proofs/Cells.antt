-- Records that are clear, and three words that are changed and put back.
use Rattle.std.proofs.Common.{◌≡◌, ℕ, zero, suc, ◌+◌, ◌<◌, true, List, [], ◌∷◌, length, get_or, take, drop, set, ℤ, pos, negsuc, sym, refl, ap, ◌∙◌, arith}
use Rattle.std.proofs.lemmas.List.{set-set, set_comm, set-get_or, get_or-take, get_or-drop, length-take}
use Rattle.std.proofs.lemmas.Bool.{and_parts, and_from, eqb-true, eq-eqb, false≢true}
use Rattle.rules.specs.Word.{eq_z}
use Rattle.rules.specs.Book.{record_at, named, all_zero, clear}

pub eq_z_true : (a b : ℤ) → eq_z a b ≡ true → a ≡ b
eq_z_true (pos a) (pos b) e = ap pos (eqb-true a b e)
eq_z_true (pos a) (negsuc b) e = absurd (false≢true e)
eq_z_true (negsuc a) (pos b) e = absurd (false≢true e)
eq_z_true (negsuc a) (negsuc b) e = ap negsuc (eqb-true a b e)

pub eq_z_from : (a b : ℤ) → a ≡ b → eq_z a b ≡ true
eq_z_from a b e = rw (sym e) (same a)
  where
    same : (a : ℤ) → eq_z a a ≡ true
    same (pos a) = eq-eqb a a refl
    same (negsuc a) = eq-eqb a a refl

zero_at : (ws : List ℤ) (i : ℕ) → all_zero ws ≡ true → get_or ws i (pos 0) ≡ pos 0
zero_at [] i h = refl
zero_at (w ∷ ws) zero h = eq_z_true w (pos 0) (and_parts _ _ h).0
zero_at (w ∷ ws) (suc i) h = zero_at ws i (and_parts _ _ h).1

zero_from : (ws : List ℤ) → ((i : ℕ) → i < length ws → get_or ws i (pos 0) ≡ pos 0) → all_zero ws ≡ true
zero_from [] h = refl
zero_from (w ∷ ws) h = and_from _ _ (eq_z_from w (pos 0) (h 0 (omega arith))) (zero_from ws (λ i l. h (suc i) (omega arith)))

pub clear_at : (b : List ℤ) (n k i : ℕ) → clear b n k ≡ true → i < n → get_or b (record_at k + i) (pos 0) ≡ pos 0
clear_at b n k i h l = sym (get_or-drop (record_at k) b i (pos 0)) ∙ sym (get_or-take n (drop (record_at k) b) i (pos 0) l) ∙ zero_at (take n (drop (record_at k) b)) i h

pub clear_from : (b : List ℤ) (n k : ℕ) → ((i : ℕ) → i < n → get_or b (record_at k + i) (pos 0) ≡ pos 0) → clear b n k ≡ true
clear_from b n k h = zero_from (take n (drop (record_at k) b)) (λ i l.
    let low : i < n = omega (arith, length-take n (drop (record_at k) b)) in
    get_or-take n (drop (record_at k) b) i (pos 0) low ∙ get_or-drop (record_at k) b i (pos 0) ∙ h i low)

-- a reference that names record k is k, and the record lies in the book
pub named_is : (b : List ℤ) (z : ℤ) → 0 < named b z → (z ≡ pos (named b z)) × (record_at (named b z) + 7 < length b)
named_is b (pos k) h = (ap pos (grind arith), grind arith)
named_is b (negsuc k) h = absurd (omega arith)

pub named_same : (b c : List ℤ) (z : ℤ) → length b ≡ length c → named b z ≡ named c z
named_same b c (pos k) e = rw e
named_same b c (negsuc k) e = refl

-- three words changed and put back
pub restored : (b : List ℤ) (i j l : ℕ) (x y z : ℤ) → (i ≡ j → ⊥) → (i ≡ l → ⊥) → (j ≡ l → ⊥)
    → set (set (set (set (set (set b i x) j y) l z) j (get_or b j (pos 0))) i (get_or b i (pos 0))) l (get_or b l (pos 0)) ≡ b
restored b i j l x y z ij il jl =
    let p = get_or b i (pos 0) in
    let q = get_or b j (pos 0) in
    let r = get_or b l (pos 0) in
    rw (
      set_comm (set (set b i x) j y) l j z q (λ e. jl (sym e)),
      set-set (set b i x) j y q,
      set_comm (set (set b i x) j q) l i z p (λ e. il (sym e)),
      set_comm (set b i x) j i q p (λ e. ij (sym e)),
      set-set b i x p,
      set-get_or b i (pos 0),
      set-get_or b j (pos 0),
      set-set b l z r,
    )
    (set-get_or b l (pos 0))
