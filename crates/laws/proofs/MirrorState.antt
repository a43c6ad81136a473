-- A state seen from the other end of its script: what the turned script finds there, and the steps of lines that change or test numbers.
use Rattle.std.proofs.Common.{◌≡◌, ℕ, ◌-◌, ◌<◌, Bool, true, false, cond, not, List, [], ◌∷◌, map, reverse, length, get_or, ℤ, Ok, Err, Result, refl, ap, ◌∙◌, ap₂, arith}
use Rattle.std.proofs.lemmas.List.{get_or-map, get_or-reverse, length-reverse}
use Rattle.rules.specs.Answer.{◌>>=◌, need}
use Rattle.rules.specs.Word.{holds}
use Rattle.rules.specs.Script.{Script, no_line, line_at, turned, turned_line, terms_of, partner, bracket}
use Rattle.rules.specs.Expression.{worked}
use Rattle.rules.specs.Step.{State, find, found, see, read, base, value, write, past, go, go_to, changed, branched, asserted}
use Rattle.rules.specs.declared.Frame.{Frame}
use Rattle.laws.proofs.Nest.{Block, partner_turned}
use Rattle.rules.specs.declared.Refusal.{Refusal}
use Rattle.rules.specs.declared.Refusal.TheVariants.{TestFailed}

abbrev pub turned_script : Script → Script
turned_script sc = record { lines = turned sc.lines; terms = sc.terms }

-- positions counted from the other end
abbrev pub mirrored : ℕ → State → State
mirrored n s = record {
  position = n - s.position;
  forward = not s.forward;
  present = s.present;
  locals = s.locals;
  frames = map (λ f. record { line = n - 1 - f.line; former = f.former; count = f.count }) s.frames;
  book = s.book;
}

abbrev pub map_ok : {A B : Type 0} → (A → B) → Result A Refusal → Result B Refusal
map_ok f (Ok a) = Ok (f a)
map_ok f (Err n) = Err n

pub bind_map : {A B C : Type 0} (m : B → C) (r : Result A Refusal) (f : A → Result B Refusal) (g : A → Result C Refusal) → ((a : A) → g a ≡ map_ok m (f a)) → (r >>= g) ≡ map_ok m (r >>= f)
unfolding ◌>>=◌
bind_map m (Ok a) f g h = h a
bind_map m (Err n) f g h = refl

pub cond_map : {B C : Type 0} (m : B → C) (t : Bool) (x y : Result B Refusal) (x' y' : Result C Refusal) → x' ≡ map_ok m x → y' ≡ map_ok m y → cond t x' y' ≡ map_ok m (cond t x y)
cond_map m true x y x' y' e f = e
cond_map m false x y x' y' e f = f

pub base_same : (n : ℕ) (fs : List Frame) → base (map (λ f. record { line = n - 1 - f.line; former = f.former; count = f.count }) fs) ≡ base fs
base_same n [] = refl
base_same n (f ∷ fs) = refl

module _ (sc : Script) (l : ℕ) (inside : l < length sc.lines) where
  abbrev n : ℕ
  n = length sc.lines

  abbrev there : ℕ
  there = n - 1 - l

  pub line_turned : line_at (turned sc.lines) there ≡ turned_line (line_at sc.lines l)
  line_turned =
      let e : n - 1 - there ≡ l = omega arith in
      get_or-map turned_line (reverse sc.lines) there no_line no_line (omega (arith, length-reverse sc.lines))
      ∙ ap turned_line (get_or-reverse sc.lines there no_line (omega arith) ∙ ap (λ k. get_or sc.lines k no_line) e)

  module _ (s : State) where
    pub find_mirrored : find (mirrored n s) ≡ find s
    find_mirrored = ap (found s.present) (base_same n s.frames)

    pub see_mirrored : see (mirrored n s) ≡ see s
    see_mirrored = ap (λ f p. f p >>= λ w. Ok (read s w)) find_mirrored

    pub value_mirrored : value (turned_script sc) (mirrored n s) there ≡ value sc s l
    value_mirrored = ap₂ (λ f ln. worked f (terms_of sc.terms ln) []) see_mirrored line_turned

  pub go_mirrored : (s : State) → go there (mirrored n s) ≡ map_ok (mirrored n) (go l s)
  go_mirrored s = ap {B = Result State Refusal} (λ p. Ok (go_to p (mirrored n s))) (by s.forward)
    where
      by : (fw : Bool) → past (not fw) there ≡ n - past fw l
      by true = omega arith
      by false = omega arith

  pub changed_mirrored : (s : State) (f : ℤ → ℤ → ℤ) → changed (turned_script sc) there (mirrored n s) f ≡ map_ok (mirrored n) (changed sc l s f)
  changed_mirrored s f =
      ap₂ (λ r q. r >>= λ e. q >>= λ x. go there (write x (f (read s x) e) (mirrored n s))) (value_mirrored s) (ap₂ (λ g ln. g ln.x) (find_mirrored s) line_turned)
      ∙ bind_map (mirrored n) (value sc s l) _ _ (λ e. bind_map (mirrored n) (find s (line_at sc.lines l).x) _ _ (λ x. go_mirrored (write x (f (read s x) e) s)))

  pub asserted_mirrored : (s : State) → asserted (turned_script sc) there (mirrored n s) ≡ map_ok (mirrored n) (asserted sc l s)
  asserted_mirrored s =
      ap (λ r. r >>= λ e. need (holds e) TestFailed >>= λ _. go there (mirrored n s)) (value_mirrored s)
      ∙ bind_map (mirrored n) (value sc s l) _ _ (λ e. bind_map (mirrored n) (need (holds e) TestFailed) _ _ (λ _. go_mirrored s))

-- if and until, with the other line of the pair mirrored too
pub branched_mirrored : (sc : Script) → Block sc.lines → (l : ℕ) → l < length sc.lines → bracket (line_at sc.lines l).kind ≡ true → partner sc.lines l < length sc.lines
    → (s : State) → let n = length sc.lines in branched (turned_script sc) (n - 1 - l) (mirrored n s) ≡ map_ok (mirrored n) (branched sc l s)
branched_mirrored sc block l inside b inside' s =
    let n = length sc.lines in
    let m = partner sc.lines l in
    let e : partner (turned sc.lines) (n - 1 - l) ≡ n - 1 - m = partner_turned sc.lines block l inside b in
    ap (λ r. r >>= λ v. cond (holds v) (go (n - 1 - l) (mirrored n s))
    (value (turned_script sc) (mirrored n s) (partner (turned sc.lines) (n - 1 - l)) >>= λ o. need (not (holds o)) TestFailed >>= λ _. go (partner (turned sc.lines) (n - 1 - l)) (mirrored n s)))
    (value_mirrored sc l inside s)
    ∙ bind_map (mirrored n) (value sc s l) _ _ (λ v.
    cond_map (mirrored n) (holds v) _ _ _ _ (go_mirrored sc l inside s)
    (rw (e, value_mirrored sc m inside' s)
    (bind_map (mirrored n) (value sc s m) _ _ (λ o. bind_map (mirrored n) (need (not (holds o)) TestFailed) _ _ (λ _. go_mirrored sc m inside' s)))))
