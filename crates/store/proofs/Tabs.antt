-- Tables of words, and what it means that a word is reached or refused.
use Rattle.std.proofs.Common.{◌≡◌, ℕ, ◌<◌, ◌≤◌, ◌≢◌, length, get_or, set, ℤ, pos, Ok, Err, sym, ap, ◌∙◌, ⊎_elim, arith}
use Rattle.std.proofs.lemmas.List.{same_lists, length-set, get_or-set_same, get_or-set_other, set_past}
use Rattle.std.proofs.lemmas.Bool.{cases_eq}
use Rattle.std.proofs.lemmas.Bool.Decides.{nat_tests}
use Rattle.rules.specs.Book.{reached, read_of}
use Rattle.rules.specs.declared.Refusal.{Refusal}
use Rattle.store.specs.Layout.{tab, reached_in}
use Rattle.store.specs.Held.{length_tab, get_or_tab}

-- a word that is refused for one purpose is refused for every other
pub refused_alike : {A B : Type 0} (n w : ℕ) (x : A) (y : B) (e : Refusal) → Err e ≡ reached_in n w x → reached_in n w y ≡ Err e
refused_alike n w x y e h = grind (arith, nat_tests)

pub reached_in_lem : {A : Type 0} (n w : ℕ) (x : A) → w < n → reached_in n w x ≡ Ok x
reached_in_lem n w x h = grind (arith, nat_tests)

-- a word that is given is one of the n words
pub given_in : {A : Type 0} (n w : ℕ) (x y : A) → Ok y ≡ reached_in n w x → (w < n) × (y ≡ x)
given_in n w x y h = grind (arith, nat_tests)

pub reached_tab : {A : Type 0} (f : ℕ → ℤ) (n w : ℕ) (x : A) → reached (tab f n) w x ≡ reached_in n w x
reached_tab f n w x = ap (λ m. reached_in m w x) (length_tab f n)

pub read_tab : (f : ℕ → ℤ) (n w : ℕ) → w < n → read_of (tab f n) w ≡ Ok (f w)
read_tab f n w h = reached_tab f n w _ ∙ reached_in_lem n w _ h ∙ ap Ok (get_or_tab f n w (pos 0) h)

-- a table that differs in word w alone, and has v there
pub tab_set : (f g : ℕ → ℤ) (n w : ℕ) (v : ℤ) → ((i : ℕ) → i < n → i ≢ w → g i ≡ f i) → (w < n → g w ≡ v) → tab g n ≡ set (tab f n) w v
tab_set f g n w v other here =
    same_lists _ _ (length_tab g n ∙ sym (length-set (tab f n) w v ∙ length_tab f n))
    (λ k d h.
    let kn : k < n = omega (arith, length_tab g n) in
    let e : get_or (tab g n) k d ≡ g k = get_or_tab g n k d kn in
    ⊎_elim
    (λ q.
    let kw : k ≡ w = q in
    let wl : w < length (tab f n) = omega (arith, length_tab f n) in
    let a : g k ≡ v = ap g kw ∙ here (omega arith) in
    let b : get_or (set (tab f n) w v) k d ≡ v = ap (λ i. get_or (set (tab f n) w v) i d) kw ∙ get_or-set_same (tab f n) w v d wl in
    e ∙ a ∙ sym b)
    (λ q. e ∙ other k kn q ∙ sym (get_or-set_other (tab f n) w k v d q ∙ get_or_tab f n k d kn))
    (cases_eq k w))

pub tab_past : (f : ℕ → ℤ) (n w : ℕ) (v : ℤ) → n ≤ w → tab f n ≡ set (tab f n) w v
tab_past f n w v h = sym (set_past (tab f n) w v (omega (arith, length_tab f n)))
