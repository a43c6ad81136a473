-- The check of one line as the code makes it.
use Rattle.std.specs.Prelude.{ℕ, ◌-◌, Bool, true, false, cond, not, ◌&&◌, ◌||◌, List, Ok, Err, Result, ◌==◌, nat_lt, slice_index_or, slice_set}
use Rattle.rules.specs.Kinds.{code}
use Rattle.rules.specs.declared.Kind.TheVariants.{Begin, Local, Delocal, Copy, Uncopy}
use Rattle.rules.specs.Script.{is_none, alike}
use Rattle.rules.specs.Check.{sort, reaches, form_of, among, well_filled, within, nests, depth}
use Rattle.forms.specs.Reading.{read_over}
use Rattle.rules.specs.declared.Line.{Line}
use Rattle.rules.specs.declared.Term.{Term}
use Rattle.rules.specs.declared.Refusal.{Refusal}
use Rattle.rules.specs.declared.Refusal.TheVariants.{Unknown, Unpaired, WrongMethod, Malformed, SelfNamed}

-- ---- one line

-- the part of `well_formed_at` that needs no term
abbrev pub placed_at : ℕ → Line → Bool
placed_at d l =
    among (sort l.x) (sort l.y) (form_of l.kind).sorts
    && ((reaches d l.x && reaches d l.y) && (not (l.kind == code Local) || nat_lt d 16))

-- whether the expression, if there is one, names x
abbrev pub named_in : List Term → ℕ → Line → Result Bool Refusal
named_in ts d l = cond (form_of l.kind).expression (read_over ts (cond (l.kind == code Delocal) (d - 1) d) l) (Ok false)

abbrev pub apart_from : Bool → Line → Bool
apart_from named l =
    (is_none l.x || not named) && (not (within (code Copy) (code Uncopy) l.kind) || not (alike l.x l.y))

abbrev pub on_name : Result Bool Refusal → Line → Result (Unit {0}) Refusal
on_name (Ok named) l = cond (apart_from named l) (Ok tt) (Err SelfNamed)
on_name (Err r) l = Err r

-- a line, by the openers before it and the methods begun
abbrev pub judged_by : List Line → List Bool → Line → List Term → Result (Unit {0}) Refusal
judged_by os begun l ts =
    cond (well_filled l)
    (cond (nests os l)
    (cond (l.kind == code Begin && slice_index_or begun l.q false) (Err WrongMethod)
    (cond (placed_at (depth os) l) (on_name (named_in ts (depth os) l) l) (Err Malformed)))
    (Err Unpaired))
    (Err Unknown)

-- the methods begun after a line
abbrev pub noted : List Bool → Line → List Bool
noted begun l = cond (l.kind == code Begin) (slice_set begun l.q true) begun
