-- Looking for the other line of a pair, a line at a time.
use Rattle.std.proofs.Common.{◌≡◌, ℕ, suc, ◌+◌, ◌-◌, ◌<◌, ◌≤◌, Bool, true, false, ◌&&◌, cond, eqb, List, [], ◌∷◌, ◌++◌, reverse, length, get_or, take, drop, sym, refl, ap, ◌∙◌, arith}
use Rattle.std.proofs.lemmas.List.{length-map, length-reverse, length-drop, take_all}
use Rattle.std.proofs.lemmas.List.{at_drop_more, at_drop_all, get_or_past}
use Rattle.std.proofs.lemmas.Bool.{cond-true, cond-false}
use Rattle.rules.specs.Script.{turned_line, turned, opens, closes, deeper, to_closer, where_is, no_line, line_at, partner}
use Rattle.rules.specs.declared.Line.{Line}
use Rattle.laws.proofs.Methods.{where_here, where_next, where_none}
use Rattle.laws.proofs.Nest.{turned_append}
use Rattle.std.proofs.Common.{take-append-drop}
use Rattle.std.proofs.Math.Seq.{drop-append_seam}
use Rattle.script.proofs.Stacks.{blank}

at_closer : (l : Line) (ls : List Line) (d : ℕ) → (closes l.kind && eqb d 0) ≡ true → to_closer (l ∷ ls) d ≡ 0
unfolding to_closer
at_closer l ls d e = rw e

past_line : (l : Line) (ls : List Line) (d : ℕ) → (closes l.kind && eqb d 0) ≡ false → to_closer (l ∷ ls) d ≡ suc (to_closer ls (deeper l.kind d))
unfolding to_closer
past_line l ls d e = rw e

at_none : (d : ℕ) → to_closer [] d ≡ 0
unfolding to_closer
at_none d = refl

-- ---- downwards from an opener

module _ (ls : List Line) (j d n : ℕ) (inv : j + to_closer (drop j ls) d ≡ n) where
  abbrev here : Line
  here = get_or ls j blank

  split : j < length ls → to_closer (drop j ls) d ≡ to_closer (here ∷ drop (j + 1) ls) d
  split h = at_drop_more (λ xs. to_closer xs d) ls j blank h

  pub down_found : j < length ls → (closes here.kind && eqb d 0) ≡ true → j ≡ n
  down_found h e = let s = split h ∙ at_closer here (drop (j + 1) ls) d e in omega arith

  pub down_goes : j < length ls → (closes here.kind && eqb d 0) ≡ false → j + 1 + to_closer (drop (j + 1) ls) (deeper here.kind d) ≡ n
  down_goes h e = let s = split h ∙ past_line here (drop (j + 1) ls) d e in omega arith

  pub down_ends : length ls ≤ j → j ≡ n
  down_ends h =
      let p : to_closer (drop j ls) d ≡ to_closer [] d = at_drop_all (λ xs. to_closer xs d) ls j h in
      let z = p ∙ at_none d in
      omega arith

pub deeper_low : (kind d : ℕ) → deeper kind d ≤ d + 1
deeper_low kind d = grind arith

-- ---- the first line of a kind for each method

module _ (ls : List Line) (kind q : ℕ) where
  pub none_past : (n : ℕ) → n ≡ length ls → n ≡ n + where_is kind q (drop n ls)
  none_past n e =
      let p : where_is kind q (drop n ls) ≡ where_is kind q [] = at_drop_all (where_is kind q) ls n (omega arith) in
      let z = p ∙ where_none kind q in
      omega arith

  -- a table that is right from line j + 1 on is right from line j on once that line is kept
  module _ (j : ℕ) (inside : j < length ls) where
    abbrev at : Line
    at = get_or ls j blank

    split_first : where_is kind q (drop j ls) ≡ where_is kind q (at ∷ drop (j + 1) ls)
    split_first = at_drop_more (where_is kind q) ls j blank inside

    pub first_kept : (old new : ℕ) → old ≡ j + 1 + where_is kind q (drop (j + 1) ls)
        → new ≡ cond (eqb at.kind kind && eqb at.q q) j old → new ≡ j + where_is kind q (drop j ls)
    first_kept old new inv is = by _ refl
      where
        by : (b : Bool) → (eqb at.kind kind && eqb at.q q) ≡ b → new ≡ j + where_is kind q (drop j ls)
        by true e =
            let z = split_first ∙ where_here kind q at (drop (j + 1) ls) e in
            let v = is ∙ ap (λ b. cond b j old) e in
            omega arith
        by false e =
            let z = split_first ∙ where_next kind q at (drop (j + 1) ls) e in
            let v = is ∙ ap (λ b. cond b j old) e in
            omega arith

-- ---- the partner of a line, by what its kind does

module _ (ls : List Line) (k : ℕ) (l : Line) (here : line_at ls k ≡ l) where
  pub partner_opener : opens l.kind ≡ true → partner ls k ≡ suc k + to_closer (drop (suc k) ls) 0
  unfolding partner
  partner_opener e = cond-true (opens (line_at ls k).kind) _ _ (ap (λ x. opens x.kind) here ∙ e)

  pub partner_closer : opens l.kind ≡ false → closes l.kind ≡ true → partner ls k ≡ k - suc (to_closer (turned (take k ls)) 0)
  unfolding partner
  partner_closer e f = cond-false (opens (line_at ls k).kind) _ _ (ap (λ x. opens x.kind) here ∙ e) ∙ cond-true (closes (line_at ls k).kind) _ _ (ap (λ x. closes x.kind) here ∙ f)

  pub partner_none : opens l.kind ≡ false → closes l.kind ≡ false → partner ls k ≡ k
  unfolding partner
  partner_none e f = cond-false (opens (line_at ls k).kind) _ _ (ap (λ x. opens x.kind) here ∙ e) ∙ cond-false (closes (line_at ls k).kind) _ _ (ap (λ x. closes x.kind) here ∙ f)

pub partner_past : (ls : List Line) (k : ℕ) → length ls ≤ k → partner ls k ≡ k
unfolding partner
partner_past ls k h = rw (get_or_past ls k no_line h) refl

pub rest_of : (ls : List Line) (n : ℕ) → take (length ls - n) (drop n ls) ≡ drop n ls
rest_of ls n = take_all (length ls - n) (drop n ls) (omega (arith, length-drop n ls))

-- the lines before line k, turned, are the last of the turned lines
pub turned_before : (ls : List Line) (k : ℕ) → k ≤ length ls → drop (length ls - k) (turned ls) ≡ turned (take k ls)
turned_before ls k h =
    let parts : turned ls ≡ turned (drop k ls) ++ turned (take k ls) = ap turned (sym (take-append-drop k ls)) ∙ turned_append (take k ls) (drop k ls) in
    let size : length (turned (drop k ls)) ≡ length ls - k = length-map (reverse (drop k ls)) turned_line ∙ length-reverse (drop k ls) ∙ length-drop k ls in
    ap (drop (length ls - k)) parts ∙ ap (λ n. drop n (turned (drop k ls) ++ turned (take k ls))) (sym size) ∙ drop-append_seam (turned (drop k ls)) (turned (take k ls))
