-- The region of each stored function where some are computed inside loops: what all turns of all groups ask for together.
-- What crates below need of it stands there: `regions`.
use Rattle.std.specs.Prelude.{Bool, true, false, ◌&&◌, if◌then◌else◌, List, [], ◌∷◌, length, Option, Some, None}
use Rattle.meaning.specs.Algorithm.{Algorithm}
use Rattle.sched.specs.Standing.{◌>>=◌}
use Rattle.regions.specs.declared.regions.Ends.{Ends}
use Rattle.sched.specs.Stored.{FormulaText, StoredText}
use Rattle.sched.specs.Regions.{LaidText}
use Rattle.regions.specs.Regions.{unreached, add_output, same_region, laid_over}
use Rattle.sched.specs.Fetches.{Entry}
use Rattle.sched.specs.Placed.{PlacedText}
use Rattle.regions.specs.Asked.{add_groups}

-- ---- the regions

module _ (a : Algorithm) (es : List Entry) (placed : List (List PlacedText)) where
  -- the hull of what these groups call of a function, and of the output its extents
  abbrev pub reach_in : StoredText → Option (List (Option Ends))
  reach_in g = add_groups a g.subject.name es placed (unreached (length g.subject.variables)) >>= λ reach. Some (add_output a g.subject.is_output reach)

  -- with what its own updates set and call, and the loops over that
  abbrev pub laid_again : StoredText → List FormulaText → Option LaidText
  laid_again g fs = reach_in g >>= laid_over a g fs

  -- of a function that has definitions, and had a region
  abbrev pub laid_anew : StoredText → Option (List FormulaText) → Option LaidText → Option LaidText
  laid_anew g None l = None
  laid_anew g (Some fs) None = None
  laid_anew g (Some fs) (Some l) = laid_again g fs

  -- of all of them, in the order of declaration, where they had these
  abbrev pub laid_each : List StoredText → List (Option LaidText) → List (Option LaidText)
  laid_each [] ls = []
  laid_each (g ∷ gs) [] = []
  laid_each (g ∷ gs) (l ∷ ls) = laid_anew g g.formulas l ∷ laid_each gs ls

-- ---- whether they are others

abbrev pub same_laid : Option LaidText → Option LaidText → Bool
same_laid None None = true
same_laid None (Some m) = false
same_laid (Some l) None = false
same_laid (Some l) (Some m) = same_region l.region m.region

abbrev pub are_same : List (Option LaidText) → List (Option LaidText) → Bool
are_same [] ms = true
are_same (l ∷ ls) [] = true
are_same (l ∷ ls) (m ∷ ms) = same_laid l m && are_same ls ms

abbrev pub unless_same : List (Option LaidText) → List (Option LaidText) → Option (List (Option LaidText))
unless_same ls ms = if are_same ls ms then None else Some ms

-- None where this is so
abbrev pub unless : {A : Type 0} → Bool → Option A → Option A
unless true o = None
unless false o = o
