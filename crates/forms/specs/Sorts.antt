-- The numbers by which the rules name the sorts of places.
use Rattle.std.specs.Prelude.{ℕ}
use Rattle.forms.specs.declared.Sort.{Sort}
use Rattle.forms.specs.declared.Sort.TheVariants.{None, Number, Reference}

abbrev pub sort_code : Sort → ℕ
sort_code None = 0
sort_code Number = 1
sort_code Reference = 2
