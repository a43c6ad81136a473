use Rattle.std.proofs.Common.{◌≡◌, ℕ, ◌+◌, ◌-◌, drop, length, refl, ap, ◌∙◌, arith}
use lib.ListN.{get_or-replicate}
use Rattle.rules.specs.Script.{where_is}
use Rattle.script.specs.Methods.{no_method}
use Rattle.script.proofs.Partners.{none_past, first_kept}
use Rattle.script.proofs.pairs.methods.Goals as goal

pub loop-k-init : goal.loop-k-init
loop-k-init c =
    let ls = c.args.lines.now in (
      refl,
      λ q h. ap (λ m. m.begin) (get_or-replicate 256 q _ no_method h) ∙ none_past ls 0 q (length ls) refl,
      λ q h. ap (λ m. m.end) (get_or-replicate 256 q _ no_method h) ∙ none_past ls 1 q (length ls) refl,
    )

pub loop-k-preserved : goal.loop-k-preserved
loop-k-preserved c =
    let ls = c.args.lines.now in
    let k = c.loop-k.k in
    let e : k ≡ (k - 1) + 1 = omega arith in
    let begins : (q : ℕ) → k + where_is 0 q (drop k ls) ≡ (k - 1) + 1 + where_is 0 q (drop ((k - 1) + 1) ls) = λ q. ap (λ n. n + where_is 0 q (drop n ls)) e in
    let ends : (q : ℕ) → k + where_is 1 q (drop k ls) ≡ (k - 1) + 1 + where_is 1 q (drop ((k - 1) + 1) ls) = λ q. ap (λ n. n + where_is 1 q (drop n ls)) e in (
      c.keep.array_long,
      λ q h. first_kept ls 0 q (k - 1) (omega arith) _ _ (c.loop-k.invariant.1 q h ∙ begins q) (c.keep.ensures.begins q h),
      λ q h. first_kept ls 1 q (k - 1) (omega arith) _ _ (c.loop-k.invariant.2 q h ∙ ends q) (c.keep.ensures.ends q h),
    )
