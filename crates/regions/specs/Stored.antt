-- The stored functions, and their definitions with the calls of other functions put in.
-- What crates below need of it stands there: `sched`.
use Rattle.std.specs.Prelude.{ℕ, Bool, true, false, List, Some, None}
use Rattle.std.specs.List.{list_any}
use Rattle.sched.specs.Stored.{FormulaText, StoredText, calls_in, are_calls_of}

abbrev pub some_calls : List ℕ → List FormulaText → Bool
some_calls x fs = list_any (λ f. are_calls_of x (calls_in f)) fs

-- ---- L11 of an expression

-- one of its definitions passes the limits
abbrev pub is_large : StoredText → Bool
is_large g = elim g.formulas [ Some fs ↦ false | None ↦ true ]
