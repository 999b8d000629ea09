-- The last definition of a function.
use Rattle.std.specs.Prelude.{ℕ, List}
use Rattle.meaning.specs.Algorithm.{Algorithm}
use Rattle.soundness.specs.Given.{function_named}
use Rattle.rules.specs.Bounding.Called.{update_count}

-- the number of the last definition of the function of this name, 0 where there is none
abbrev pub last_in : Algorithm → List ℕ → ℕ
last_in a f = update_count (function_named a.functions f)
