-- How many evaluations a function's value takes.
use Rattle.std.specs.Prelude.{ℕ, List, ℤ, Some, None, slice_get}
use Rattle.meaning.specs.Algorithm.{Algorithm}
use Rattle.meaning.specs.Count.{priced}

-- the evaluations that the value at p of the k-th function, counted from 0, takes
abbrev pub count_of_function : Algorithm → List ℕ → ℕ → List ℤ → ℕ
count_of_function a samples k p = elim (slice_get a.functions k) [ Some f ↦ (priced a samples).costs f.name p | None ↦ 0 ]
