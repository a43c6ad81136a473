-- Adding, subtracting and xor undo themselves on words.
use Rattle.std.proofs.Common.{◌≡◌, ℕ, ◌^◌, ◌<◌, ℤ, ◌+ℤ◌, ◌-ℤ◌, neg_ℤ, ap, ◌∙◌, w32, SFits, to_z, of_z}
use lib.IntN.{+ℤ-neg_ℤ_cancel, -ℤ-+ℤ_cancel}
use lib.Bits.{bit_xor, xor_assoc, xor_self, xor_zero_r, xor_lt}
use mir.ValLaws.{of_z_fits, to_z-Fits}
use Rattle.std.specs.Int.{int_wrap}
use Rattle.std.proofs.lemmas.Int.{int_wrap-add_left, int_wrap_fits, SFits-int_wrap, of_z-to_z, to_z-of_z}
use Rattle.rules.specs.Word.{word, bits, on_bits}

pub add_undone : (a e : ℤ) → SFits w32 a → word (word (a +ℤ e) -ℤ e) ≡ a
add_undone a e f = int_wrap-add_left w32 (a +ℤ e) (neg_ℤ e) ∙ ap (int_wrap w32) (+ℤ-neg_ℤ_cancel a e) ∙ int_wrap_fits w32 a f

pub sub_undone : (a e : ℤ) → SFits w32 a → word (word (a -ℤ e) +ℤ e) ≡ a
sub_undone a e f = int_wrap-add_left w32 (a -ℤ e) e ∙ ap (int_wrap w32) (-ℤ-+ℤ_cancel a e) ∙ int_wrap_fits w32 a f

pub bits_lt : (z : ℤ) → bits z < 2 ^ 32
bits_lt z = (of_z_fits w32 (word z) (SFits-int_wrap w32 z)).fits

bits_of : (n : ℕ) → n < 2 ^ 32 → bits (to_z w32 n) ≡ n
bits_of n h = ap (of_z w32) (int_wrap_fits w32 (to_z w32 n) (to_z-Fits w32 n (record { fits = h }))) ∙ of_z-to_z w32 n h

pub xor_undone : (a e : ℤ) → SFits w32 a → on_bits bit_xor (on_bits bit_xor a e) e ≡ a
xor_undone a e f =
    ap (λ n. to_z w32 (bit_xor n (bits e))) (bits_of (bit_xor (bits a) (bits e)) (xor_lt 32 (bits a) (bits e) (bits_lt a) (bits_lt e)))
    ∙ ap (to_z w32) (xor_assoc (bits a) (bits e) (bits e) ∙ ap (bit_xor (bits a)) (xor_self (bits e)) ∙ xor_zero_r (bits a))
    ∙ to_z-of_z w32 (word a) (SFits-int_wrap w32 a)
    ∙ int_wrap_fits w32 a f
