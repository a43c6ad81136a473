-- The calls of the rules' screen, by what the code found.
use Rattle.std.proofs.Common.{◌≡◌, ℕ, ◌-◌, ◌<◌, Bool, true, false, List, [], ◌∷◌, map, length, get_or, take, ℤ, sym, refl, ap, ◌∙◌, arith}
use lib.ListN.{length-map}
use Rattle.std.proofs.lemmas.List.{get_or-map, take-map}
use Rattle.std.proofs.lemmas.Bool.{lt-ltb}
use Rattle.reversible.specs.Machine.{Machine, fwd, bwd, Outcome, run}
use Rattle.reversible.specs.Ledger.{Entry, entry, last, struck, Screen as Model, gate, attempt, apply, back, screen_apply, screen_backed, screen_back, screen_call}
use Rattle.rules.specs.Script.{Script}
use Rattle.rules.specs.Step.{State}
use Rattle.rules.specs.Run.{machine}
use Rattle.rules.specs.Ledger.{screen_rules}
use Rattle.rules.specs.declared.Refusal.{Refusal}
use Rattle.screen.specs.declared.parts.Standing.{Standing}
use Rattle.screen.specs.Model.{entry_of}

-- ---- the standing list

pub standing_length : (xs : List Standing) → length (map entry_of xs) ≡ length xs
standing_length xs = length-map xs entry_of

pub standing_last : (xs : List Standing) (d : Standing) → 0 < length xs → last (map entry_of xs) ≡ entry_of (get_or xs (length xs - 1) d)
standing_last xs d some =
    ap (λ n. get_or (map entry_of xs) (n - 1) (entry 0 0)) (standing_length xs)
    ∙ get_or-map entry_of xs (length xs - 1) d (entry 0 0) (omega arith)

pub standing_struck : (xs : List Standing) → struck (map entry_of xs) ≡ map entry_of (take (length xs - 1) xs)
standing_struck xs = ap (λ n. take (n - 1) (map entry_of xs)) (standing_length xs) ∙ take-map entry_of (length xs - 1) xs

-- ---- the calls

-- with room, an attempt is a run
attempt_run : (m : Machine State (List ℤ) Refusal) (a : List ℤ) (st : List Entry) (q budget : ℕ) → length st < 64 → attempt screen_rules m a st q budget ≡ run m q fwd a budget
attempt_run m a st q budget h = ap (gate screen_rules m a q budget (m.is_book a) (m.has q)) (lt-ltb (length st) 64 h) ∙ by (m.is_book a) refl (m.has q) refl
  where
    by : (u : Bool) → m.is_book a ≡ u → (v : Bool) → m.has q ≡ v → gate screen_rules m a q budget u v true ≡ run m q fwd a budget
    by true e true f = refl
    by true e false f = rw (e, f)
    by false e v f = rw e

pub apply_room : (s : Model (List ℤ) Script) (q budget : ℕ) (o : Outcome (List ℤ) Refusal) → length s.standing < 64 → o ≡ run (machine s.script) q fwd s.book budget
    → screen_call screen_rules s (apply q budget) ≡ screen_apply screen_rules s q o
apply_room s q budget o h e = ap (screen_apply screen_rules s q) (attempt_run (machine s.script) s.book s.standing q budget h ∙ sym e)

back_stands : (s : Model (List ℤ) Script) (o : Outcome (List ℤ) Refusal) → 0 < length s.standing → o ≡ run (machine s.script) (last s.standing).method bwd s.book (last s.standing).steps
    → screen_call screen_rules s back ≡ screen_backed screen_rules s o
back_stands s o h e = by s.standing h e
  where
    by : (st : List Entry) → 0 < length st → o ≡ run (machine s.script) (last st).method bwd s.book (last st).steps → screen_back screen_rules s st ≡ screen_backed screen_rules s o
    by [] h e = absurd (omega arith)
    by (x ∷ st) h e = ap (screen_backed screen_rules s) (sym e)

abbrev shown : List ℤ → Script → List Standing → Model (List ℤ) Script
shown b sc xs = record { book = b; script = sc; standing = map entry_of xs }

-- back runs the last method that stands
pub back_last : (b : List ℤ) (sc : Script) (xs : List Standing) (x : Standing) (o : Outcome (List ℤ) Refusal) → 0 < length xs → x ≡ get_or xs (length xs - 1) x
    → o ≡ run (machine sc) x.method bwd b x.steps
    → screen_call screen_rules (shown b sc xs) back ≡ screen_backed screen_rules (shown b sc xs) o
back_last b sc xs x o some is e =
    let l = standing_last xs x some ∙ ap entry_of (sym is) in
    back_stands (shown b sc xs) o (let n = standing_length xs in omega arith) (e ∙ ap (λ y. run (machine sc) y.method bwd b y.steps) (sym l))
