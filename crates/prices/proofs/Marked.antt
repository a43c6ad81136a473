-- Marking an instrument through a layer.
use Rattle.std.proofs.Common.{◌≡◌, ℕ, ◌<◌, true, List, length, get_or, ℤ, pos, ◌-ℤ◌, Ok, Err, sym, refl, ap, ◌∙◌}
use Rattle.rules.specs.declared.Refusal.{Refusal}
use Rattle.rules.specs.Answer.{either}
use Rattle.rules.specs.Book.{read_of, write_of}
use Rattle.rules.specs.Word.{word}
use Rattle.store.specs.Layout.{is_mark, moved}
use Rattle.store.proofs.Tabs.{refused_alike, reached_in_lem, given_in, reached_tab}
use Rattle.prices.specs.declared.Instrument.{Instrument}
use Rattle.prices.specs.declared.Instrument.TheVariants.{Bund, Gilt, Bobl}
use Rattle.prices.specs.Prices.{mark, move_to}

is_mark_lem : (i : Instrument) → is_mark (mark i) ≡ true
is_mark_lem Bund = refl
is_mark_lem Gilt = refl
is_mark_lem Bobl = refl

pub at_mark : (w : ℕ) (i : Instrument) → w ≡ mark i → is_mark w ≡ true
at_mark w i q = ap is_mark q ∙ is_mark_lem i

pub marked_refused : (ms b : List ℤ) (w : ℕ) (i : Instrument) (t : ℤ) (e : Refusal) → w ≡ mark i → Err e ≡ write_of (moved ms b) w → Err e ≡ move_to b i t
marked_refused ms b w i t e q h =
    let read : read_of b w ≡ Err e = refused_alike (length b) w tt (get_or b w (pos 0)) e (h ∙ reached_tab _ (length b) w tt) in
    sym (ap (λ r. either r (λ x. Ok (word (t -ℤ x))) (λ d. Err d)) (ap (read_of b) (sym q) ∙ read))

pub marked_inside : (ms b : List ℤ) (w : ℕ) → Ok tt ≡ write_of (moved ms b) w → w < length b
marked_inside ms b w h = (given_in (length b) w tt tt (h ∙ reached_tab _ (length b) w tt)).0

pub marked_moved : (b : List ℤ) (w : ℕ) (i : Instrument) (t : ℤ) → w ≡ mark i → w < length b → Ok (word (t -ℤ get_or b w (pos 0))) ≡ move_to b i t
marked_moved b w i t q h =
    sym (ap (λ r. either r (λ x. Ok (word (t -ℤ x))) (λ d. Err d)) (ap (read_of b) (sym q) ∙ reached_in_lem (length b) w (get_or b w (pos 0)) h))
