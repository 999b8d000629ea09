-- Which functions may lack a region because of what other ones break: those that one of these calls, itself or through others.
use Rattle.std.specs.Prelude.{Bool, ◌||◌, if◌then◌else◌, ℕ, List, [], ◌∷◌, ◌++◌, Option, Some, None}
use Rattle.std.specs.List.{flat_map}
use Rattle.tree.specs.Term.{indices}
use Rattle.meaning.specs.Algorithm.{Change, Function, Algorithm}
use Rattle.meaning.specs.Names.{same_name}
use Rattle.algo.specs.Scoping.Standing.{Written, calls_of, calls_of_all}
use Rattle.sched.specs.Stored.{FormulaText, StoredText, calls_in, are_calls_of}

-- ---- from the last one on

-- the calls of each of these that is a first one, or that is called by one behind it of which this is so: each is called by those behind it alone
module _ {A : Type 0} (name : A → List ℕ) (calls : A → List Written) (is_first : A → Bool) where
  abbrev pub with_own : A → List Written → List Written
  with_own x cs = if is_first x || are_calls_of (name x) cs then calls x ++ cs else cs

  abbrev pub gathered : List A → List Written
  gathered [] = []
  gathered (x ∷ xs) = with_own x (gathered xs)

-- ---- by the text

-- the calls of an update: those of its left indices, and then those of its value
abbrev pub change_calls : Change → List Written
change_calls u = calls_of_all (indices u.at) ++ calls_of u.value

abbrev pub function_calls : Function → List Written
function_calls f = calls_of f.value ++ flat_map change_calls f.changes

-- the calls of the function of this name, and of what it comes to by these
abbrev pub calls_by_text : List Function → List ℕ → List Written
calls_by_text fs x = gathered (λ f. f.name) function_calls (λ f. same_name f.name x) fs

-- ---- of stored functions

-- the calls of all definitions, with the calls of functions that are not stored put in; where one of these passes the limits, by the text
abbrev pub calls_by : List Function → List ℕ → Option (List FormulaText) → List Written
calls_by fs x None = calls_by_text fs x
calls_by fs x (Some gs) = flat_map calls_in gs

abbrev pub stored_calls : Algorithm → StoredText → List Written
stored_calls a g = calls_by a.functions g.subject.name g.formulas

-- the calls of those that leave others without regions, and of what these call; a function that is called there may lack a region without a fault of its own
abbrev pub lacking : Algorithm → (StoredText → Bool) → List StoredText → List Written
lacking a leaves gs = gathered (λ g. g.subject.name) (stored_calls a) leaves gs
