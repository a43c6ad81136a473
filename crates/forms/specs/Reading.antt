-- An expression read once: whether it is well formed, and whether it names a place.
use Rattle.std.specs.Prelude.{ℕ, ◌+◌, ◌-◌, Bool, cond, ◌&&◌, ◌||◌, List, Some, None, Ok, Err, Option, Result, nat_le, nat_lt}
use Rattle.rules.specs.Script.{alike, terms_of}
use Rattle.rules.specs.Check.{term_form, terms_form, postfix, expression_form, names}
use Rattle.rules.specs.declared.Place.{Place}
use Rattle.rules.specs.declared.Line.{Line}
use Rattle.rules.specs.declared.Term.{Term}
use Rattle.rules.specs.declared.Refusal.{Refusal}
use Rattle.rules.specs.declared.Refusal.TheVariants.{Malformed}

-- how many values wait after a well-formed term
abbrev pub waiting_after : ℕ → Term → ℕ → Option ℕ
waiting_after d t n =
    cond (term_form d t) (cond (nat_le t.kind 3) (cond (nat_lt n 16) (Some (n + 1)) None) (cond (nat_le 2 n) (Some (n - 1)) None)) None

abbrev pub mentioned : Place → Term → Bool
mentioned x t = alike x t.first || alike x t.second

-- whether well-formed terms name x
abbrev pub read_in : Place → ℕ → List Term → Result Bool Refusal
read_in x d ts = cond (terms_form d ts && postfix 0 ts) (Ok (names x ts)) (Err Malformed)

-- whether a line's well-formed expression names the line's x
abbrev pub read_over : List Term → ℕ → Line → Result Bool Refusal
read_over ts d l = cond (expression_form ts d l) (Ok (names l.x (terms_of ts l))) (Err Malformed)
