-- What the checker asks of the plan that is made of whatever schedule, also where functions are computed inside loops, and that it has it, as far as that is proved.
use Rattle.std.specs.Prelude.{◌≡◌, ◌⊎◌, ℕ, true, List, [], ◌∷◌, length, Option, Some, None}
use Rattle.std.specs.List.{AllByRecursion}
use Rattle.meaning.specs.Algorithm.{Algorithm}
use Rattle.meaning.specs.Conditions.{IsAlgorithm}
use Rattle.plan.specs.Plan.{Plan}
use Rattle.plan.specs.View.{plan_of}
use Rattle.plan.specs.Certificate.Certificate.{Certificate, certificate_of}
use Rattle.soundness.specs.declared.outline.refusals.code.Flaw.{Flaw}
use Rattle.soundness.specs.declared.outline.refusals.code.K.TheVariants.{K11, K14}
use Rattle.shares.specs.declared.answer.SharesError.TheVariants.{Flaw as Told}
use Rattle.shares.specs.Made.{ErrorMeans}
use Rattle.sched.specs.Schedule.{Schedule}
use Rattle.sched.specs.Legal.{IsLegal}
use Rattle.lower.specs.declared.lowering.Lowered.{Lowered}
use Rattle.validation.specs.Wide.{RegionIsWide}
use Rattle.validation.specs.Groups.Inside.{Begins}
use Rattle.sched.specs.Stored.{StoredText}
use Rattle.lower.specs.Stored.{stored_functions}
use Rattle.sched.specs.Regions.{LaidText}
use Rattle.lower.specs.Owning.{IsExtent}
use Rattle.lower.specs.Groups.{AreGroupsMade}
use Rattle.completeness.specs.Laws.{IsNestLine, IsWideInside}
use Rattle.completeness.specs.Parted.{ArePartedCells, KeepsInner}

-- a region has some numbers of 32 bits for each of the function's variables
pub record IsRegion (g : StoredText) (l : LaidText) : Type 0 where
  pub long : length l.region ≡ length g.subject.variables
  pub extents : AllByRecursion IsExtent l.region

abbrev pub IsRegionIf : StoredText → Option LaidText → Type 0
IsRegionIf g None = Unit {0}
IsRegionIf g (Some l) = IsRegion g l

-- so does each region that one of these functions has
abbrev pub AreRegions : List StoredText → List (Option LaidText) → Type 0
AreRegions [] ls = Unit {0}
AreRegions (g ∷ gs) [] = Unit {0}
AreRegions (g ∷ gs) (l ∷ ls) = IsRegionIf g l × AreRegions gs ls

-- no split of a stored root function makes an inner loop that is parallel, or that is split again
abbrev pub RootInnersAreKept : Algorithm → Schedule → Type 0
RootInnersAreKept a s = AllByRecursion (λ g. g.subject.is_root ≡ true → KeepsInner g.placed.loops g.placed.cuts) (stored_functions a s)

-- the pieces of the plan that is made of whatever schedule part its cells
abbrev pub CellsAreParted : Type 0
CellsAreParted =
    (a : Algorithm) (s : Schedule) (l : Lowered) → IsAlgorithm a → IsLegal a s → AreGroupsMade a s l → RootInnersAreKept a s
    → ArePartedCells (plan_of l.plan) (certificate_of l.certificate)

-- where they do, what is told of the pieces' shares is of what they fetch, or a limit: neither K9 nor K10
abbrev pub FetchesAndLimitsAreTold : Type 0
FetchesAndLimitsAreTold = (a : Algorithm) (p : Plan) (c : Certificate) (f : Flaw) → ArePartedCells p c → ErrorMeans p c (Told f) → (f.code ≡ K11) ⊎ (f.code ≡ K14)

-- ---- forms

-- no form of a line `group` is out of the limits of forms (K3)
abbrev pub GroupLinesAreWithin : Type 0
GroupLinesAreWithin =
    (a : Algorithm) (s : Schedule) (l : Lowered) → IsAlgorithm a → IsLegal a s → AreGroupsMade a s l → (line : ℕ)
    → ¬ Begins (plan_of l.plan) (λ n g. RegionIsWide g.region) line

-- nor is one of a loop, a let, a guard or a store
abbrev pub NestLinesAreWithin : Type 0
NestLinesAreWithin =
    (a : Algorithm) (s : Schedule) (l : Lowered) → IsAlgorithm a → IsLegal a s → AreGroupsMade a s l → (line : ℕ)
    → ¬ IsWideInside IsNestLine (plan_of l.plan) line
