-- The step as the code takes it is the step of the rules.
use Rattle.std.proofs.Common.{◌≡◌, ℕ, Bool, true, false, cond, not, ltb, length, ℤ, pos, Ok, Err, Result, sym, refl, ap, ◌∙◌}
use Rattle.std.proofs.lemmas.List.{get_or_past}
use Rattle.rules.specs.declared.Refusal.{Refusal}
use Rattle.rules.specs.declared.Refusal.TheVariants.{TestFailed, TooDeep, Unknown}
use Rattle.rules.specs.declared.Kind.{Kind}
use Rattle.rules.specs.declared.Kind.TheVariants.{Begin, End, Add, Subtract, If, Fi, From, Until, Local, Delocal, New, Delete, Copy, Uncopy, Xor, Swap, Call, Uncall}
use Rattle.rules.specs.Answer.{◌>>=◌, need}
use Rattle.rules.specs.Kinds.{code}
use Rattle.rules.specs.Word.{holds}
use Rattle.rules.specs.Script.{Script, line_at, partner}
use Rattle.rules.specs.Step.{State, turn_of, met, value, go, opening, rules, rule, step}
use Rattle.laws.proofs.Coded.{met_high}
use Rattle.machine.specs.declared.due.Due.{Due}
use Rattle.machine.specs.Acting.{changes, opens, closes, allocates, releases, duplicates, erases, exchanges, enters, comes_back, IsDue, own_value, far_value, acting_as, acting}

-- fi and from
asserts : (r : Result ℤ Refusal) (x : Result State Refusal)
    → (r >>= λ v. Ok (pos 0) >>= λ u. cond (holds v) x (Err TestFailed)) ≡ (r >>= λ v. need (holds v) TestFailed >>= λ _. x)
unfolding ◌>>=◌ need
asserts (Err f) x = refl
asserts (Ok v) x = by (holds v)
  where
    by : (t : Bool) → cond t x (Err TestFailed) ≡ (need t TestFailed >>= λ _. x)
    by true = refl
    by false = refl

-- if and until
branches : (r o : Result ℤ Refusal) (x y : Result State Refusal)
    → (r >>= λ v. cond (holds v) (Ok (pos 0)) o >>= λ u. cond (holds v) x (cond (holds u) (Err TestFailed) y))
    ≡ (r >>= λ v. cond (holds v) x (o >>= λ u. need (not (holds u)) TestFailed >>= λ _. y))
unfolding ◌>>=◌ need
branches (Err f) o x y = refl
branches (Ok v) o x y = by (holds v) o
  where
    last : (t : Bool) → cond t (Err TestFailed) y ≡ (need (not t) TestFailed >>= λ _. y)
    last true = refl
    last false = refl

    by : (t : Bool) (o : Result ℤ Refusal) → (cond t (Ok (pos 0)) o >>= λ u. cond t x (cond (holds u) (Err TestFailed) y)) ≡ cond t x (o >>= λ u. need (not (holds u)) TestFailed >>= λ _. y)
    by true o = refl
    by false (Err f) = refl
    by false (Ok u) = last (holds u)

-- local
opens_up : (t : Bool) (r : Result ℤ Refusal) (f : ℤ → Result State Refusal)
    → (cond t r (Err TooDeep) >>= λ v. Ok (pos 0) >>= λ u. need t TooDeep >>= λ _. f v) ≡ (need t TooDeep >>= λ _. r >>= f)
unfolding ◌>>=◌ need
opens_up true (Ok v) f = refl
opens_up true (Err e) f = refl
opens_up false r f = refl

-- the values first, then the choice
abbrev chosen : Script → Due → State → Result State Refusal
chosen sc d s =
    own_value (met s.forward (code d.kind)) sc d.number s >>= λ own. far_value (met s.forward (code d.kind)) sc d.number s own >>= λ far. acting sc d s own far

-- the same at a direction of its own
abbrev chosen_at : Kind → Bool → Script → ℕ → State → Result State Refusal
chosen_at k forward sc l s =
    own_value (met forward (code k)) sc l s >>= λ own. far_value (met forward (code k)) sc l s own
    >>= λ far. acting_as k forward sc (record { number = l; line = line_at sc.lines l; kind = k }) s own far

same_step : (k : Kind) (forward : Bool) (sc : Script) (l : ℕ) (s : State) → chosen_at k forward sc l s ≡ rule (met forward (code k)) sc l s
unfolding changes opens closes allocates releases duplicates erases exchanges enters comes_back ◌>>=◌ need
same_step Begin true sc l s = refl
same_step Begin false sc l s = refl
same_step End true sc l s = refl
same_step End false sc l s = refl
same_step Add true sc l s = refl
same_step Add false sc l s = refl
same_step Subtract true sc l s = refl
same_step Subtract false sc l s = refl
same_step If true sc l s = branches (value sc s l) (value sc s (partner sc.lines l)) (go l s) (go (partner sc.lines l) s)
same_step If false sc l s = asserts (value sc s l) (go l s)
same_step Fi true sc l s = asserts (value sc s l) (go l s)
same_step Fi false sc l s = branches (value sc s l) (value sc s (partner sc.lines l)) (go l s) (go (partner sc.lines l) s)
same_step From true sc l s = asserts (value sc s l) (go l s)
same_step From false sc l s = branches (value sc s l) (value sc s (partner sc.lines l)) (go l s) (go (partner sc.lines l) s)
same_step Until true sc l s = branches (value sc s l) (value sc s (partner sc.lines l)) (go l s) (go (partner sc.lines l) s)
same_step Until false sc l s = asserts (value sc s l) (go l s)
same_step Local true sc l s = opens_up (ltb (length s.locals) 256) (value sc s l) (opening l s)
same_step Local false sc l s = refl
same_step Delocal true sc l s = refl
same_step Delocal false sc l s = opens_up (ltb (length s.locals) 256) (value sc s l) (opening l s)
same_step New true sc l s = refl
same_step New false sc l s = refl
same_step Delete true sc l s = refl
same_step Delete false sc l s = refl
same_step Copy true sc l s = refl
same_step Copy false sc l s = refl
same_step Uncopy true sc l s = refl
same_step Uncopy false sc l s = refl
same_step Xor true sc l s = refl
same_step Xor false sc l s = refl
same_step Swap true sc l s = refl
same_step Swap false sc l s = refl
same_step Call true sc l s = refl
same_step Call false sc l s = refl
same_step Uncall true sc l s = refl
same_step Uncall false sc l s = refl

module _ (sc : Script) (s : State) where
  -- no line's turn: a line of no kind
  pub step_none : (f : Refusal) → IsDue sc s (Err f) → step sc s ≡ Err f
  unfolding step
  step_none f (unknown, high) =
      ap (λ k. rule k sc (turn_of s) s) (met_high s.forward (line_at sc.lines (turn_of s)).kind high)
      ∙ ap (λ r. r sc (turn_of s) s) (get_or_past rules (line_at sc.lines (turn_of s)).kind (λ _ _ _. Err Unknown) high)
      ∙ ap Err (sym unknown)

  module _ (d : Due) (due : IsDue sc s (Ok d)) where
    taken : step sc s ≡ chosen sc d s
    unfolding step
    taken =
        let (number, line, kind) = due in
        ap (λ c. rule (met s.forward c) sc (turn_of s) s) (sym kind)
        ∙ sym (same_step d.kind s.forward sc (turn_of s) s)
        ∙ (λ i. chosen sc (record { number = sym number i; line = sym line i; kind = d.kind }) s)

    pub own_refused : (f : Refusal) → Err f ≡ own_value (met s.forward (code d.kind)) sc d.number s → step sc s ≡ Err f
    unfolding ◌>>=◌
    own_refused f e = taken ∙ ap (λ r. r >>= λ own. far_value (met s.forward (code d.kind)) sc d.number s own >>= λ far. acting sc d s own far) (sym e)

    module _ (own : ℤ) (first : Ok own ≡ own_value (met s.forward (code d.kind)) sc d.number s) where
      decided : step sc s ≡ (far_value (met s.forward (code d.kind)) sc d.number s own >>= λ far. acting sc d s own far)
      unfolding ◌>>=◌
      decided = taken ∙ ap (λ r. r >>= λ own. far_value (met s.forward (code d.kind)) sc d.number s own >>= λ far. acting sc d s own far) (sym first)

      pub far_refused : (f : Refusal) → Err f ≡ far_value (met s.forward (code d.kind)) sc d.number s own → step sc s ≡ Err f
      unfolding ◌>>=◌
      far_refused f e = decided ∙ ap (λ r. r >>= λ far. acting sc d s own far) (sym e)

      pub acted : (far : ℤ) → Ok far ≡ far_value (met s.forward (code d.kind)) sc d.number s own → step sc s ≡ acting sc d s own far
      unfolding ◌>>=◌
      acted far e = decided ∙ ap (λ r. r >>= λ far. acting sc d s own far) (sym e)
