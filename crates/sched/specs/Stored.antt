-- The stored functions, and their definitions with the calls of other functions put in.
use Rattle.std.specs.Prelude.{ℕ, Bool, List, [], ◌++◌, map, Option, Some, None, slice_get}
use Rattle.std.specs.Option.{option_map}
use Rattle.std.specs.List.{flat_map, list_any}
use Rattle.tree.specs.Term.{Term, term_of}
use Rattle.meaning.specs.Algorithm.{Change}
use Rattle.meaning.specs.Names.{same_name}
use Rattle.algo.specs.Parts.{change_of, names_of}
use Rattle.algo.specs.Scoping.Standing.{Written, calls_of}
use Rattle.sched.specs.Placing.{SubjectText, PlacedText, subject_of, placed_of}
use Rattle.sched.specs.declared.definitions.Formula.{Formula}
use Rattle.sched.specs.declared.definitions.Stored.{Stored}

-- a definition over stored functions and the input alone: the left index of each variable, none where it is the variable alone,
-- and the value
pub record FormulaText : Type 0 where
  pub at : List (Option Term)
  pub value : Term

-- a stored function with its pure definition and its updates; no definitions where one of them is too large with the calls put in
pub record StoredText : Type 0 where
  pub subject : SubjectText
  pub placed : PlacedText
  pub variables : List (List ℕ)
  pub changes : List Change
  pub formulas : Option (List FormulaText)

-- ---- the calls of a definition

abbrev pub calls_left : Option Term → List Written
calls_left None = []
calls_left (Some e) = calls_of e

-- those of its left indices, and then those of its value
abbrev pub calls_in : FormulaText → List Written
calls_in f = flat_map calls_left f.at ++ calls_of f.value

-- it calls the function of this name
abbrev pub are_calls_of : List ℕ → List Written → Bool
are_calls_of x cs = list_any (λ c. same_name c.name x) cs

-- its left index at a place, where that is not the variable alone
abbrev pub left_at : FormulaText → ℕ → Option Term
left_at f d = elim (slice_get f.at d) [ Some i ↦ i | None ↦ None ]

-- ---- as memory keeps them

abbrev pub formula_of : Formula → FormulaText
formula_of f = record { at = map (option_map term_of) f.at.items; value = term_of f.value }

abbrev pub stored_of : Stored → StoredText
stored_of s = record {
  subject = subject_of s.subject.now;
  placed = placed_of s.placed.now;
  variables = names_of s.function.now.variables.items;
  changes = map change_of s.function.now.updates.items;
  formulas = option_map (λ v. map formula_of v.items) s.formulas;
}
