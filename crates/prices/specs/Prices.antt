-- Which mark keeps the price of an instrument, what it is called, and what marking it through a layer gives.
use Rattle.std.specs.Prelude.{ℕ, List, ℤ, ◌-ℤ◌, Ok, Err, Result, codes}
use Rattle.rules.specs.declared.Refusal.{Refusal}
use Rattle.rules.specs.Answer.{either}
use Rattle.rules.specs.Book.{read_of}
use Rattle.rules.specs.Word.{word}
use Rattle.prices.specs.declared.Instrument.{Instrument}
use Rattle.prices.specs.declared.Instrument.TheVariants.{Bund, Gilt, Bobl}

abbrev pub mark : Instrument → ℕ
mark Bund = 1
mark Gilt = 2
mark Bobl = 64

-- what an instrument is called
abbrev pub name : Instrument → List ℕ
name Bund = codes "bund"
name Gilt = codes "gilt"
name Bobl = codes "bobl"

-- the move that shows a price over the book below, or the refusal
abbrev pub move_to : List ℤ → Instrument → ℤ → Result ℤ Refusal
move_to b i ticks = either (read_of b (mark i)) (λ x. Ok (word (ticks -ℤ x))) (λ e. Err e)
