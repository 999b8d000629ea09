-- Indices that are simple: literals and variables, shifted by literals and clamped to literals.
use Rattle.std.specs.Prelude.{◌≡◌, Bool, true, false, ◌&&◌, List, Option, Some, None}
use Rattle.std.specs.List.{AllByRecursion, list_all}
use Rattle.numeric.specs.declared.op.Op.{Op}
use Rattle.numeric.specs.declared.op.Op.TheVariants.{Add, Sub}
use Rattle.tree.specs.Term.{Term, Terms, Number, Name, Binary, Clamp, End, More}
use Rattle.sched.specs.Stored.{FormulaText, calls_in}

abbrev pub is_literal : Term → Bool
is_literal (Number t n) = true
is_literal _ = false

abbrev pub is_shift : Op → Bool
is_shift Add = true
is_shift Sub = true
is_shift _ = false

-- a literal, a variable, or one of these plus or minus literals and clamped to literals, in any order
abbrev pub is_simple : Term → Bool
is_simple (Number t n) = true
is_simple (Name x) = true
is_simple (Binary op e l) = is_shift op && (is_literal l && is_simple e)
is_simple (Clamp e l h) = (is_literal l && is_literal h) && is_simple e
is_simple _ = false

abbrev pub are_simple : Terms → Bool
are_simple End = true
are_simple (More e es) = is_simple e && are_simple es

abbrev pub is_simple_left : Option Term → Bool
is_simple_left None = true
is_simple_left (Some e) = is_simple e

-- each index of a definition's calls, with the unstored ones put in, and of its left side is simple
abbrev pub has_simple_indices : FormulaText → Bool
has_simple_indices f = list_all (λ c. are_simple c.at) (calls_in f) && list_all is_simple_left f.at

abbrev pub SimpleIndices : List FormulaText → Type 0
SimpleIndices fs = AllByRecursion (λ f. has_simple_indices f ≡ true) fs
