-- Books that are copied word by word.
use Rattle.std.proofs.Common.{◌≡◌, ℕ, ◌+◌, ◌<◌, List, ◌++◌, length, get_or, set, ℤ, pos, Ok, Err, sym, ap, ◌∙◌, arith}
use Rattle.std.proofs.Math.Nat.{zero-add}
use Rattle.std.proofs.Math.Seq.{paste}
use Rattle.std.proofs.lemmas.List.{drop_all, append-nil}
use Rattle.std.proofs.lemmas.List.Edits.{paste_more, paste_all, length-paste}
use Rattle.std.proofs.lemmas.Bool.Decides.{nat_tests}
use Rattle.rules.specs.declared.Refusal.{Refusal}
use Rattle.client.specs.Client.{copy_word_answer, word_copied, copy_answer, copied}

-- one word more of b over c
pub one_more : (b c : List ℤ) (n : ℕ) → length b ≡ length c → n < length b → set (paste c 0 b n) n (get_or b n (pos 0)) ≡ paste c 0 b (n + 1)
one_more b c n e h = ap (λ k. set (paste c 0 b n) k (get_or b n (pos 0))) (sym (zero-add n)) ∙ paste_more c 0 b n (pos 0) (omega arith) h

pub all_words : (b c : List ℤ) (n : ℕ) → length b ≡ length c → n ≡ length b → paste c 0 b n ≡ b
all_words b c n e h = paste_all c 0 b n h ∙ ap (λ t. b ++ t) (drop_all (0 + n) c (omega arith)) ∙ append-nil b

-- a word that both have is copied, and not refused
pub copied_in : (b c : List ℤ) (w : ℕ) → w < length b → word_copied b c w ≡ set c w (get_or b w (pos 0))
copied_in b c w h = grind (arith, nat_tests)

pub not_refused : (b c : List ℤ) (w : ℕ) (e : Refusal) → w < length b → w < length c → Err e ≡ copy_word_answer b c w → ⊥
not_refused b c w e h k r = grind (arith, nat_tests)

-- books of the same size
pub copied_all : (b c : List ℤ) → (length b ≡ 0 → ⊥) → length b ≡ length c → (Ok tt ≡ copy_answer b c) × (b ≡ copied b c)
copied_all b c h e = (grind (arith, nat_tests), grind (arith, nat_tests))

pub ruleset copying = (one_more, all_words, copied_in, not_refused, copied_all, length-paste)
