-- What stands past the last of a table of methods.
use Rattle.script.specs.declared.methods.Method.{Method}

abbrev pub no_method : Method
no_method = record { begin = 0; end = 0 }
