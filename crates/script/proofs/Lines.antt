-- What the code finds of one line is what the rules find.
use Rattle.std.proofs.Common.{◌≡◌, ℕ, ◌-◌, ◌<◌, Bool, true, false, cond, not, ◌&&◌, ◌||◌, eqb, ltb, leb, List, get_or, take, drop, Ok, Err, sym, refl, ap, ◌∙◌, subst, arith}
use Rattle.std.proofs.lemmas.Bool.{and_parts, eqb-true, leb-true}
use Rattle.rules.specs.Answer.{◌>>=◌, need}
use Rattle.rules.specs.Script.{Script, is_none, terms_of, where_is}
use Rattle.rules.specs.Check.{known, sort, reaches, form_of, uses_x, uses_y, among, well_filled, nests, depth, expression_form, well_formed_at, names, apart, judged}
use Rattle.rules.specs.declared.Line.{Line}
use Rattle.rules.specs.declared.Term.{Term}
use Rattle.rules.specs.declared.Refusal.{Refusal}
use Rattle.rules.specs.declared.Refusal.TheVariants.{Unknown, Unpaired, WrongMethod, Malformed, SelfNamed}
use Rattle.script.specs.Judging.{placed_at, named_in, apart_from, on_name, judged_by}

need_cond : (b : Bool) (r : Refusal) → need b r ≡ cond b (Ok tt) (Err r)
unfolding need
need_cond true r = refl
need_cond false r = refl

-- a line that uses no expression has none, and so names nothing in it
nothing_named : (ts : List Term) (l : Line) → well_filled l ≡ true → (form_of l.kind).expression ≡ false → names l.x (terms_of ts l) ≡ false
nothing_named ts l h bare =
    let f = form_of l.kind in
    let h₁ = (and_parts (leb l.kind 17) _ h).1 in
    let h₂ = (and_parts (known l.x) _ h₁).1 in
    let h₃ = (and_parts (known l.y) _ h₂).1 in
    let h₄ = (and_parts (leb l.q 31) _ h₃).1 in
    let h₅ = (and_parts (f.method || eqb l.q 0) _ h₄).1 in
    let h₆ = (and_parts (uses_x f.sorts || is_none l.x) _ h₅).1 in
    let h₇ = (and_parts (uses_y f.sorts || is_none l.y) _ h₆).1 in
    let h₈ : (eqb l.first 0 && eqb l.count 0) ≡ true = subst (λ b. (b || (eqb l.first 0 && eqb l.count 0)) ≡ true) bare h₇ in
    let e : l.count ≡ 0 = eqb-true l.count 0 (and_parts (eqb l.first 0) _ h₈).1 in
    ap (λ n. names l.x (take n (drop l.first ts))) e

-- the number of a method of a filled line fits the tables
pub method_low : (l : Line) → well_filled l ≡ true → l.q < 256
method_low l h =
    let h₁ = (and_parts (leb l.kind 17) _ h).1 in
    let h₂ = (and_parts (known l.x) _ h₁).1 in
    let h₃ = (and_parts (known l.y) _ h₂).1 in
    let q = leb-true l.q 31 (and_parts (leb l.q 31) _ h₃).0 in
    omega arith

-- places and expression, then whether x is named
parts : (ts : List Term) (d : ℕ) (l : Line) → well_filled l ≡ true
    → cond (placed_at d l) (on_name (named_in ts d l) l) (Err Malformed) ≡ (need (well_formed_at ts d l) Malformed >>= λ _. need (apart ts l) SelfNamed)
unfolding ◌>>=◌ need
parts ts d l h =
    by (among (sort l.x) (sort l.y) (form_of l.kind).sorts) (reaches d l.x && reaches d l.y) (not (eqb l.kind 8) || ltb d 16)
    (form_of l.kind).expression (expression_form ts (cond (eqb l.kind 9) (d - 1) d) l) (names l.x (terms_of ts l)) (nothing_named ts l h)
  where
    by : (a r o x e n : Bool) → (x ≡ false → n ≡ false)
        → cond (a && (r && o)) (on_name (cond x (cond e (Ok n) (Err Malformed)) (Ok false)) l) (Err Malformed)
        ≡ (need (a && (r && (o && (not x || e)))) Malformed >>= λ _. need (apart_from n l) SelfNamed)
    by false r o x e n f = refl
    by true false o x e n f = refl
    by true true false x e n f = refl
    by true true true true true n f = sym (need_cond (apart_from n l) SelfNamed)
    by true true true true false n f = refl
    by true true true false e n f = sym (need_cond (apart_from false l) SelfNamed) ∙ ap (λ b. need (apart_from b l) SelfNamed) (sym (f refl))

pub judged_as : (sc : Script) (k : ℕ) (os : List Line) (l : Line) (begun : List Bool)
    → (well_filled l ≡ true → eqb l.kind 0 ≡ true → not (get_or begun l.q false) ≡ eqb (where_is 0 l.q sc.lines) k) → judged_by os begun l sc.terms ≡ judged sc k os l
unfolding ◌>>=◌ need
judged_as sc k os l begun first =
    by (well_filled l) refl (nests os l) (eqb l.kind 0) (get_or begun l.q false) (eqb (where_is 0 l.q sc.lines) k) first
  where
    by : (f : Bool) → well_filled l ≡ f → (n b g w : Bool) → (well_filled l ≡ true → b ≡ true → not g ≡ w)
        → cond f (cond n (cond (b && g) (Err WrongMethod) (cond (placed_at (depth os) l) (on_name (named_in sc.terms (depth os) l) l) (Err Malformed))) (Err Unpaired)) (Err Unknown)
        ≡ (need f Unknown >>= λ _. need n Unpaired >>= λ _. need (not b || w) WrongMethod >>= λ _. need (well_formed_at sc.terms (depth os) l) Malformed >>= λ _. need (apart sc.terms l) SelfNamed)
    by false h n b g w e = refl
    by true h false b g w e = refl
    by true h true false g w e = parts sc.terms (depth os) l h
    by true h true true true w e = ap (λ v. need v WrongMethod >>= λ _. need (well_formed_at sc.terms (depth os) l) Malformed >>= λ _. need (apart sc.terms l) SelfNamed) (e h refl)
    by true h true true false w e =
        parts sc.terms (depth os) l h
        ∙ ap (λ v. need v WrongMethod >>= λ _. need (well_formed_at sc.terms (depth os) l) Malformed >>= λ _. need (apart sc.terms l) SelfNamed) (e h refl)
