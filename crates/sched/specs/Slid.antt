-- When a function that is computed inside a loop slides along it, what it holds in each turn then, and from where on its later turns make what is new.
use Rattle.std.specs.Prelude.{◌==◌, Bool, List, length}
use Rattle.sched.specs.Stored.{FormulaText}

abbrev pub is_single : List FormulaText → Bool
is_single fs = length fs == 1
