-- What an expression over words gives is a word.
use Rattle.std.proofs.Common.{◌≡◌, ℕ, zero, suc, ◌^◌, ◌<◌, Bool, true, false, ltb, List, [], ◌∷◌, ◌++◌, length, get_or, set, ℤ, pos, ◌+ℤ◌, ◌-ℤ◌, ◌*ℤ◌, Ok, Err, Result, refl, subst, w32, SFits}
use lib.Signed.{quot_z, rem_z}
use lib.Bits.{bit_and, bit_or, bit_xor, and_lt, or_lt, xor_lt}
use mir.ValLaws.{to_z-Fits}
use Rattle.std.specs.List.{AllByRecursion}
use Rattle.std.specs.Int.{int_wrap}
use Rattle.std.proofs.lemmas.Int.{int_wrap_fits, SFits-int_wrap}
use Rattle.std.proofs.lemmas.Bool.{and_parts, and_from}
use Rattle.rules.specs.Answer.{◌>>=◌}
use Rattle.rules.specs.Word.{eq_z, word, truth, bits, on_bits, divided, no_operator, operators, operate}
use Rattle.rules.specs.Book.{all_words}
use Rattle.rules.specs.Expression.{onto, operated, taken, worked}
use Rattle.rules.specs.declared.Place.{Place}
use Rattle.rules.specs.declared.Term.{Term}
use Rattle.laws.proofs.Chains.{ok_err, ok_same, passed, chose}
use Rattle.laws.proofs.Cells.{eq_z_true, eq_z_from}
use Rattle.laws.proofs.Words.{bits_lt}
use Rattle.rules.specs.declared.Refusal.{Refusal}
use Rattle.rules.specs.declared.Refusal.TheVariants.{ZeroDivisor}

abbrev pub IsWord : ℤ → Type 0
IsWord z = word z ≡ z

pub word_fits : (z : ℤ) → IsWord z → SFits w32 z
word_fits z e = subst (SFits w32) e (SFits-int_wrap w32 z)

pub word_is : (z : ℤ) → IsWord (word z)
word_is z = int_wrap_fits w32 (word z) (SFits-int_wrap w32 z)

bits_word : (f : ℕ → ℕ → ℕ) → ((a b : ℕ) → a < 2 ^ 32 → b < 2 ^ 32 → f a b < 2 ^ 32) → (a b : ℤ) → IsWord (on_bits f a b)
bits_word f h a b = int_wrap_fits w32 (on_bits f a b) (to_z-Fits w32 (f (bits a) (bits b)) (record { fits = h (bits a) (bits b) (bits_lt a) (bits_lt b) }))

pub xor_word : (a b : ℤ) → IsWord (on_bits bit_xor a b)
xor_word = bits_word bit_xor (xor_lt 32)

truth_word : (b : Bool) → IsWord (truth b)
unfolding int_wrap
truth_word true = refl
truth_word false = refl

pub zero_word : IsWord (pos 0)
zero_word = truth_word false

-- ---- lists

pub all_at : {A : Type 0} (P : A → Type 0) (xs : List A) (k : ℕ) (d : A) → AllByRecursion P xs → P d → P (get_or xs k d)
all_at P [] k d h e = e
all_at P (x ∷ xs) zero d h e = h.0
all_at P (x ∷ xs) (suc k) d h e = all_at P xs k d h.1 e

pub all_set : {A : Type 0} (P : A → Type 0) (xs : List A) (k : ℕ) (v : A) → AllByRecursion P xs → P v → AllByRecursion P (set xs k v)
all_set P [] k v h e = h
all_set P (x ∷ xs) zero v h e = (e, h.1)
all_set P (x ∷ xs) (suc k) v h e = (h.0, all_set P xs k v h.1 e)

pub all_join : {A : Type 0} (P : A → Type 0) (xs ys : List A) → AllByRecursion P xs → AllByRecursion P ys → AllByRecursion P (xs ++ ys)
all_join P [] ys h k = k
all_join P (x ∷ xs) ys h k = (h.0, all_join P xs ys h.1 k)

pub words_from : (ws : List ℤ) → all_words ws ≡ true → AllByRecursion IsWord ws
words_from [] h = tt
words_from (w ∷ ws) h = let (a, b) = and_parts (eq_z (word w) w) (all_words ws) h in (eq_z_true (word w) w a, words_from ws b)

pub words_to : (ws : List ℤ) → AllByRecursion IsWord ws → all_words ws ≡ true
words_to [] h = refl
words_to (w ∷ ws) h = and_from (eq_z (word w) w) (all_words ws) (eq_z_from (word w) w h.0) (words_to ws h.1)

-- ---- operators

abbrev Gives : (ℤ → ℤ → Result ℤ Refusal) → Type 0
Gives f = (a b v : ℤ) → f a b ≡ Ok v → IsWord v

gives : (g : ℤ → ℤ → ℤ) → ((a b : ℤ) → IsWord (g a b)) → Gives (λ a b. Ok (g a b))
gives g h a b v e = subst IsWord (ok_same e) (h a b)

divides : (g : ℤ → ℤ → ℤ) → Gives (divided g)
divides g a b v e = by (eq_z b (pos 0)) e
  where
    by : (t : Bool) → elim t as (λ _. Result ℤ Refusal) [ true ↦ Err ZeroDivisor | false ↦ Ok (word (g a b)) ] ≡ Ok v → IsWord v
    by true e = ok_err e
    by false e = subst IsWord (ok_same e) (word_is (g a b))

none : Gives no_operator
none a b v e = ok_err e

all_give : AllByRecursion Gives operators
all_give =
    (none, (none, (none, (none, (gives _ (λ a b. word_is (a +ℤ b)), (gives _ (λ a b. word_is (a -ℤ b)), (gives _ xor_word, (gives _ (λ a b. word_is (a *ℤ b)), (divides quot_z, (divides rem_z, (gives _ (bits_word bit_and (and_lt 32)), (gives _ (bits_word bit_or (or_lt 32)), (gives _ (λ a b. truth_word _), (gives _ (λ a b. truth_word _), (gives _ (λ a b. truth_word _), (gives _ (λ a b. truth_word _), (gives _ (λ a b. truth_word _), (gives _ (λ a b. truth_word _), (gives _ (λ a b. truth_word _), (gives _ (λ a b. truth_word _), tt))))))))))))))))))))

operate_word : (k : ℕ) → Gives (operate k)
unfolding operate
operate_word k = all_at Gives operators k no_operator all_give none

-- ---- expressions

abbrev Words : (List ℤ → Result (List ℤ) Refusal) → Type 0
Words f = (vs us : List ℤ) → AllByRecursion IsWord vs → f vs ≡ Ok us → AllByRecursion IsWord us

onto_word : (v : ℤ) → IsWord v → Words (λ vs. onto vs v)
onto_word v w vs us h e = chose (ltb (length vs) 16) _ _ e (λ _ f. subst (AllByRecursion IsWord) (ok_same f) (w, h)) (λ _ f. ok_err f)

operated_word : (k : ℕ) → Words (operated k)
unfolding operated
operated_word k [] us h e = ok_err e
operated_word k (b ∷ []) us h e = ok_err e
operated_word k (b ∷ a ∷ vs) us h e = passed _ _ e λ v is last. onto_word v (operate_word k a b v is) vs us h.1.1 last

taken_word : (t : Term) (a b : Result ℤ Refusal) → ((v : ℤ) → a ≡ Ok v → IsWord v) → Words (taken t a b)
unfolding taken
taken_word t a b here =
    all_at Words
    ((λ vs. onto vs (word t.number))
    ∷ (λ vs. a >>= onto vs)
    ∷ (λ vs. a >>= λ v. onto vs (truth (eq_z v (pos 0))))
    ∷ (λ vs. a >>= λ v. b >>= λ w. onto vs (truth (eq_z v w)))
    ∷ [])
    t.kind (operated t.kind) (
      onto_word (word t.number) (word_is t.number),
      (
        (λ vs us h e. passed _ _ e λ v is last. onto_word v (here v is) vs us h last),
        (
          (λ vs us h e. passed _ _ e λ v is last. onto_word _ (truth_word _) vs us h last),
          (
            (λ vs us h e. passed _ _ e λ v is rest. passed _ _ rest λ w at last. onto_word _ (truth_word _) vs us h last),
            tt,
          ),
        ),
      ),
    )
    (operated_word t.kind)

pub worked_word : (see : Place → Result ℤ Refusal) → ((p : Place) (v : ℤ) → see p ≡ Ok v → IsWord v) → (ts : List Term) (vs : List ℤ) (v : ℤ) → AllByRecursion IsWord vs → worked see ts vs ≡ Ok v → IsWord v
unfolding worked
worked_word see h [] [] v k e = ok_err e
worked_word see h [] (w ∷ []) v k e = subst IsWord (ok_same e) k.0
worked_word see h [] (w ∷ x ∷ vs) v k e = ok_err e
worked_word see h (t ∷ ts) vs v k e =
    passed _ _ e λ us is rest. worked_word see h ts us v (taken_word t (see t.first) (see t.second) (h t.first) vs us k is) rest
