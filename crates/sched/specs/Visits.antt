-- The points that the loops of a skeleton visit, as plans run them, and that each point of the region is among them.
use Rattle.std.specs.Prelude.{◌≡◌, ℕ, ◌+◌, ◌<◌, true, false, if◌then◌else◌, List, [], ◌∷◌, ◌++◌, length, Option, Some, None, Ok, ℤ, pos, ◌+ℤ◌, ◌≤ℤ◌, ◌<ℤ◌, int_le, slice_get, Contains}
use Rattle.std.specs.List.{AllByRecursion, flat_map}
use Rattle.lin.specs.Forms.{Form}
use Rattle.plan.specs.declared.stmt.Pick.{Pick}
use Rattle.plan.specs.declared.stmt.Pick.TheVariants.{Min, Max}
use Rattle.plan.specs.Symbols.{Symbols, bind, form_value, largest, smallest, turns}
use Rattle.plan.specs.Certificate.Cells.{grid_symbols}
use Rattle.meaning.specs.Algorithm.{Function, Algorithm}
use Rattle.sched.specs.declared.numbers.Extent.{Extent}
use Rattle.sched.specs.declared.skeleton.Step.{Step}
use Rattle.sched.specs.declared.skeleton.Step.TheVariants.{Turns, Named, Tested}
use Rattle.sched.specs.declared.nest.Turning.{Turning}
use Rattle.sched.specs.Schedule.{DirectiveText, Schedule}
use Rattle.sched.specs.Placing.{SubjectText, PlacedText, has_double, start, all_in}
use Rattle.sched.specs.Subjects.{range_names, reductions_of, places}
use Rattle.sched.specs.Skeleton.{BodyText, NestText, SkeletonText, bodies_of, is_missing, skeleton}

-- ---- how the steps of a skeleton run

-- the smallest or the largest of some forms
abbrev pub picked : Pick → List Form → Symbols → ℤ
picked Min ls s = smallest s ls
picked Max ls s = largest s ls

-- the symbols each time that the steps come down to the store: loops turn, lets name and guards test as they do in a plan
abbrev pub arrivals : List Step → Symbols → List Symbols
arrivals [] s = s ∷ []
arrivals (Turns i x kind ∷ steps) s = flat_map (λ z. arrivals steps (bind s i z (int_le z (largest s x.lower)))) (turns s x)
arrivals (Named i pick ls ∷ steps) s = arrivals steps (bind s i (picked pick ls s) true)
arrivals (Tested low high ∷ steps) s = if int_le (form_value low s) (form_value high s) then arrivals steps s else []

-- ---- points

-- a number of the region in each dimension
abbrev pub IsInExtents : List Extent → List ℤ → Type 0
IsInExtents [] [] = Unit {0}
IsInExtents [] (z ∷ zs) = ⊥
IsInExtents (e ∷ es) [] = ⊥
IsInExtents (e ∷ es) (z ∷ zs) = (e.low ≤ℤ z) × (z <ℤ (e.low +ℤ pos e.count)) × IsInExtents es zs

-- a number of each reduction variable
abbrev pub IsInRanges : List Turning → List ℤ → Type 0
IsInRanges [] [] = Unit {0}
IsInRanges [] (z ∷ zs) = ⊥
IsInRanges (d ∷ ds) [] = ⊥
IsInRanges (d ∷ ds) (z ∷ zs) = (d.low ≤ℤ z) × (z ≤ℤ d.last) × IsInRanges ds zs

-- a piece of the grid
abbrev pub IsInGrid : List ℕ → List ℕ → Type 0
IsInGrid [] [] = Unit {0}
IsInGrid [] (x ∷ xs) = ⊥
IsInGrid (n ∷ ns) [] = ⊥
IsInGrid (n ∷ ns) (x ∷ xs) = (x < n) × IsInGrid ns xs

-- ---- what is visited

-- the coordinate is a form that comes to this number, or an expression of the definition finds it
abbrev pub IsMet : BodyText → ℕ → Option Form → Symbols → ℤ → Type 0
IsMet b d (Some form) s z = form_value form s ≡ z
IsMet b d None s z = is_missing b d ≡ true

-- each coordinate, of which the first is that of this dimension
abbrev pub AreMet : BodyText → ℕ → List (Option Form) → Symbols → List ℤ → Type 0
AreMet b d [] s [] = Unit {0}
AreMet b d [] s (z ∷ zs) = ⊥
AreMet b d (o ∷ os) s [] = ⊥
AreMet b d (o ∷ os) s (z ∷ zs) = IsMet b d o s z × AreMet b (d + 1) os s zs

-- some piece comes, some time, to the store with these coordinates
pub record IsVisited (k : SkeletonText) (b : BodyText) (n : NestText) (p : List ℤ) : Type 0 where
  pub piece : List ℕ
  pub in_grid : IsInGrid k.grid piece
  pub symbols : Symbols
  pub arrives : Contains (arrivals (k.head ++ n.steps) (grid_symbols piece)) symbols
  pub met : AreMet b 0 n.at symbols p

-- the nest of this definition visits each point of the region with each value of its reduction variables
pub record VisitsAll (region : List Extent) (k : SkeletonText) (b : BodyText) (number : ℕ) : Type 0 where
  pub nest : NestText
  pub is : slice_get k.nests number ≡ Some nest
  pub visits : (q r : List ℤ) → IsInExtents region q → IsInRanges b.ranges r → IsVisited k b nest (q ++ r)

-- ---- laws

-- no variable of the function has the name of another, and no reduction variable of an update that of another or of a variable
pub record HasOwnNames (f : Function) : Type 0 where
  pub variables : has_double f.variables ≡ false
  pub reductions : AllByRecursion (λ u. has_double (f.variables ++ range_names u.ranges) ≡ false) f.changes

-- the subject is one of this function, as far as loops go
pub record IsSubjectOf (subject : SubjectText) (f : Function) : Type 0 where
  pub variables : subject.variables ≡ f.variables
  pub reductions : subject.reductions ≡ reductions_of f.changes

-- Whatever directives were applied to a root function, each of its definitions visits each point of the region: for every point q of the region and every value r of
-- the definition's reduction variables there are a piece, and numbers of its loops' symbols, in turn within their loops and with the guards true, at which the
-- coordinates come to q and r.
abbrev pub SkeletonsVisitTheirRegion : Type 0
SkeletonsVisitTheirRegion =
    (f : Function) (subject : SubjectText) (ds : List DirectiveText) (p : PlacedText) (region : List Extent) (k : SkeletonText) →
    HasOwnNames f → IsSubjectOf subject f → all_in subject ds (start subject) ≡ Ok p → length region ≡ length f.variables → skeleton f p region ≡ Some k →
    (number : ℕ) (b : BodyText) → slice_get (bodies_of f) number ≡ Some b → VisitsAll region k b number

-- Whatever a schedule says, if no directive breaks a rule: of each function of the algorithm the loops that the schedule makes visit the whole region.
abbrev pub SchedulesVisitTheirRegions : Type 0
SchedulesVisitTheirRegions =
    (a : Algorithm) (s : Schedule) (ps : List PlacedText) (i : ℕ) (f : Function) (p : PlacedText) (region : List Extent) (k : SkeletonText) →
    places a s ≡ Ok ps → slice_get a.functions i ≡ Some f → slice_get ps i ≡ Some p → HasOwnNames f → length region ≡ length f.variables → skeleton f p region ≡ Some k →
    (number : ℕ) (b : BodyText) → slice_get (bodies_of f) number ≡ Some b → VisitsAll region k b number
