-- The texts of plans that are made of schedules that split loops once are files of these plans alone.
use Rattle.std.specs.Prelude.{◌≡◌, ◌++◌, ℕ, ◌+◌, ◌≤◌, Bool, true, nat_le, List, [], ◌∷◌, length, Option, Some, None, slice_get}
use Rattle.std.specs.List.{AllByRecursion, list_all}
use Rattle.meaning.specs.Algorithm.{Algorithm}
use Rattle.meaning.specs.Conditions.{IsAlgorithm}
use Rattle.algo.specs.Words.{IsNamed}
use Rattle.algo.specs.Written.{AreExpressionsWritten}
use Rattle.tree.specs.Term.{Term}
use Rattle.tree.specs.Tree.{node_count}
use Rattle.plan.specs.Plan.{Index, At, Found, Coordinate, Plan}
use Rattle.plan.specs.View.{plan_of}
use Rattle.plan.specs.Certificate.Certificate.{Certificate, certificate_of}
use Rattle.spelling.specs.Lines.Lines.{lines_text}
use Rattle.spelling.specs.declared.lines.error.TextError.TheVariants as error
use Rattle.nest.specs.Blocks.Line.{Line, StoreLine}
use Rattle.nest.specs.Blocks.Flat.{plan_lines}
use Rattle.nest.specs.Notation.{plan_notation}
use Rattle.cert.specs.Notation.{certificate_lines}
use Rattle.cert.specs.File.File.{IsFileOf, IsRefusedFile}
use Rattle.sched.specs.Schedule.{Schedule}
use Rattle.sched.specs.Legal.{IsLegal}
use Rattle.lower.specs.declared.lowering.Lowered.{Lowered}
use Rattle.sched.specs.Stored.{FormulaText, StoredText}
use Rattle.lower.specs.Stored.{stored_functions}
use Rattle.regions.specs.Faults.{are_whole}
use Rattle.lower.specs.Refused.{AreSmall, AreRegionsKept}
use Rattle.lower.specs.Groups.{AreGroupsMade}
use Rattle.completeness.specs.Fitting.{SplitsOnce}

-- the plan's lines, and behind them the certificate's
abbrev pub file_text : Plan → Certificate → List ℕ
file_text p c = lines_text (plan_notation.lines p) ++ lines_text (certificate_lines c)

-- a line of a file has at most 65,536 bytes
abbrev pub is_short : List ℕ → Bool
is_short line = nat_le (length line) 65536

-- so has each of both
pub record AreLinesShort (p : Plan) (c : Certificate) : Type 0 where
  pub plan : list_all is_short (plan_notation.lines p) ≡ true
  pub certificate : list_all is_short (certificate_lines c) ≡ true

-- how many nodes the expressions of a store have together, by which coordinates are found and of which the value is
abbrev pub index_nodes : Index → ℕ
index_nodes (At form) = 0
index_nodes (Found e) = node_count e

abbrev pub found_nodes : List Coordinate → ℕ
found_nodes [] = 0
found_nodes (c ∷ cs) = index_nodes c.index + found_nodes cs

abbrev pub store_nodes : List Coordinate → Term → ℕ
store_nodes at e = found_nodes at + node_count e

-- a store's expressions have at most 3,500 nodes together
abbrev pub is_small_line : Line → Bool
is_small_line (StoreLine b k at e) = nat_le (store_nodes at e) 3500
is_small_line _ = true

-- so have those of each store of the plan
abbrev pub AreStoresSmall : Plan → Type 0
AreStoresSmall p = list_all is_small_line (plan_lines p) ≡ true

-- the text is read as this plan with this certificate where no line is too long for files, as where each store is small; as no other, whatever its lines; and it is
-- never refused for its form, and as past a limit only where a line is too long
pub record IsFileOfPlan (p : Plan) (c : Certificate) : Type 0 where
  pub short : AreStoresSmall p → AreLinesShort p c
  pub read : AreLinesShort p c → IsFileOf (file_text p c) p c
  pub alone : (q : Plan) (d : Certificate) → IsFileOf (file_text p c) q d → (q ≡ p) × (d ≡ c)
  pub formed : (line : ℕ) → ¬ IsRefusedFile (file_text p c) (error.Form line)
  pub limited : (line : ℕ) → IsRefusedFile (file_text p c) (error.Limit line) → ¬ AreLinesShort p c

-- so it is of the plan that is made of such a schedule, where the algorithm's names and expressions are those of a text, as they are of each that was read
abbrev pub FilesAreOfPlans : Type 0
FilesAreOfPlans =
    (a : Algorithm) (s : Schedule) (l : Lowered) → IsAlgorithm a → IsLegal a s → AreSmall a s → AreRegionsKept a s → AreGroupsMade a s l
    → SplitsOnce a s → IsNamed a → AreExpressionsWritten a → IsFileOfPlan (plan_of l.plan) (certificate_of l.certificate)

-- ---- definitions

-- how many nodes the expressions of a definition have, with the calls of functions that are not stored put in: its left indices, and its value
abbrev pub left_nodes : List (Option Term) → ℕ
left_nodes [] = 0
left_nodes (None ∷ es) = left_nodes es
left_nodes (Some e ∷ es) = node_count e + left_nodes es

abbrev pub formula_nodes : FormulaText → ℕ
formula_nodes f = left_nodes f.at + node_count f.value

-- at most 3,500 each
abbrev pub AreFormulasSmall : Algorithm → Schedule → Type 0
AreFormulasSmall a s =
    (n : ℕ) (u : StoredText) → slice_get (stored_functions a s) n ≡ Some u → (fs : List FormulaText) → u.formulas ≡ Some fs → AllByRecursion (λ f. formula_nodes f ≤ 3500) fs

-- then the stores have no more, of the plan that is made of a schedule under which each stored function is a root function that is computed at no loop, whatever the loops
abbrev pub StoresAreSmall : Type 0
StoresAreSmall =
    (a : Algorithm) (s : Schedule) (l : Lowered) → IsAlgorithm a → IsLegal a s → AreSmall a s → AreRegionsKept a s → AreGroupsMade a s l
    → are_whole (stored_functions a s) ≡ true → AreFormulasSmall a s → AreStoresSmall (plan_of l.plan)
