-- How a chain of tests goes on.
use Rattle.std.proofs.Common.{◌≡◌, true, false, Ok, Err, Result, refl}
use Rattle.rules.specs.declared.Refusal.{Refusal}
use Rattle.rules.specs.Answer.{◌>>=◌, need}

module _ {A B : Type 0} where
  pub goes_on : (a : A) (f : A → Result B Refusal) → (Ok a >>= f) ≡ f a
  unfolding ◌>>=◌
  goes_on a f = refl

  pub ends_at : (r : Refusal) (f : A → Result B Refusal) → (Err r >>= f) ≡ Err r
  unfolding ◌>>=◌
  ends_at r f = refl

pub need_holds : (r : Refusal) → need true r ≡ Ok tt
unfolding need
need_holds r = refl

pub need_fails : (r : Refusal) → need false r ≡ Err r
unfolding need
need_fails r = refl

pub ruleset chained = (goes_on, ends_at, need_holds, need_fails)
