-- Lines turned and then exchanged end for end.
use Rattle.std.proofs.Common.{◌≡◌, List, [], ◌∷◌, ◌++◌, map, reverse, Ok, Err, Result, sym, refl, ap, ◌∙◌}
use Rattle.std.proofs.lemmas.List.{reverse-append}
use Rattle.rules.specs.Script.{turned_line, turned}
use Rattle.rules.specs.Check.{checked}
use Rattle.rules.specs.declared.Line.{Line}
use Rattle.rules.specs.declared.Term.{Term}
use Rattle.laws.proofs.Nest.{turned_cons}
use Rattle.laws.proofs.Stands.{whole}
use Rattle.script.specs.declared.checking.Fault.{Fault}
use Rattle.script.specs.Verdicts.{script_from, verdict, turned_if, TurnsBack}

pub reverse_turned : (ls : List Line) → reverse (map turned_line ls) ≡ turned ls
reverse_turned [] = refl
reverse_turned (l ∷ ls) = reverse-append (turned_line l ∷ []) (map turned_line ls) ∙ ap (λ x. x ++ (turned_line l ∷ [])) (reverse_turned ls) ∙ sym (turned_cons l ls)

-- a turn that gave this answer
pub turns_back : (r : Result (Unit {0}) Fault) (before after : List Line) (ts : List Term) → verdict r ≡ checked (script_from before ts) → after ≡ turned_if r before → TurnsBack r before after ts
turns_back (Ok u) before after ts e f =
    let laws = whole.scripts (script_from before ts) (sym e) in (
      ap (λ ls. checked (script_from ls ts)) f ∙ laws.again,
      ap turned f ∙ ap (λ sc. sc.lines) laws.twice,
    )
turns_back (Err x) before after ts e f = tt
