-- Taking a chain of answers apart.
use Rattle.std.proofs.Common.{◌≡◌, Bool, true, false, cond, not, Ok, Err, Result, sym, refl, ap, subst, arith}
use Rattle.rules.specs.Answer.{◌>>=◌, need, number}
use Rattle.rules.specs.declared.Refusal.{Refusal}
use Rattle.rules.specs.declared.Refusal.TheVariants.{TooLong, Unknown, Unpaired, WrongMethod, Malformed, SelfNamed, NoBook, NoSuchWord, TestFailed, ZeroDivisor, NoRecord, NotClear, NoFree, FreeUnfit, Changed, TooDeep, OutOfBudget, NoSuchMethod, ListFull, NothingStands, SomethingStands}

abbrev IsOk : {A : Type 0} → Result A Refusal → Type 0
IsOk (Ok a) = Unit {0}
IsOk (Err n) = ⊥

abbrev or_else : {A : Type 0} → A → Result A Refusal → A
or_else d (Ok a) = a
or_else d (Err n) = d

pub ok_err : {A X : Type 0} {a : A} {n : Refusal} → ◌≡◌ {A = Result A Refusal} (Err n) (Ok a) → X
ok_err {A} {a = a} {n = n} e = absurd (subst (λ (r : Result A Refusal). IsOk r → ⊥) e (λ x. x) tt)

pub ok_same : {A : Type 0} {a b : A} → ◌≡◌ {A = Result A Refusal} (Ok a) (Ok b) → a ≡ b
ok_same {A} {a} {b} e = ap (or_else a) e

-- a chain that came to a value passed each link
pub passed : {A B X : Type 0} {b : B} (r : Result A Refusal) (f : A → Result B Refusal) → (r >>= f) ≡ Ok b → ((a : A) → r ≡ Ok a → f a ≡ Ok b → X) → X
unfolding ◌>>=◌
passed (Ok a) f e k = k a refl e
passed (Err n) f e k = ok_err e

-- and held each test
pub held : {B X : Type 0} {b : B} (t : Bool) (n : Refusal) (f : Unit {0} → Result B Refusal) → (need t n >>= f) ≡ Ok b → (t ≡ true → f tt ≡ Ok b → X) → X
unfolding ◌>>=◌ need
held true n f e k = k refl e
held false n f e k = ok_err e

-- and took one of two ways
pub chose : {A X : Type 0} {z : A} (t : Bool) (x y : A) → cond t x y ≡ z → (t ≡ true → x ≡ z → X) → (t ≡ false → y ≡ z → X) → X
chose true x y e f g = f refl e
chose false x y e f g = g refl e

pub not_true : (t : Bool) → not t ≡ true → t ≡ false
not_true true e = sym e
not_true false e = refl

pub needed : (t : Bool) (n : Refusal) {v : Unit {0}} → need t n ≡ Ok v → t ≡ true
unfolding need
needed true n e = refl
needed false n e = ok_err e

-- no refusal has the number of success
pub not_zero : (r : Refusal) → number r ≡ 0 → ⊥
not_zero TooLong e = omega arith
not_zero Unknown e = omega arith
not_zero Unpaired e = omega arith
not_zero WrongMethod e = omega arith
not_zero Malformed e = omega arith
not_zero SelfNamed e = omega arith
not_zero NoBook e = omega arith
not_zero NoSuchWord e = omega arith
not_zero TestFailed e = omega arith
not_zero ZeroDivisor e = omega arith
not_zero NoRecord e = omega arith
not_zero NotClear e = omega arith
not_zero NoFree e = omega arith
not_zero FreeUnfit e = omega arith
not_zero Changed e = omega arith
not_zero TooDeep e = omega arith
not_zero OutOfBudget e = omega arith
not_zero NoSuchMethod e = omega arith
not_zero ListFull e = omega arith
not_zero NothingStands e = omega arith
not_zero SomethingStands e = omega arith
