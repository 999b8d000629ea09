-- That the loops of a skeleton visit nothing but points of its region, but in dimensions that are rounded up.
use Rattle.std.specs.Prelude.{◌≡◌, ℕ, ◌<◌, Bool, true, false, not, ◌&&◌, ◌||◌, if◌then◌else◌, List, [], ◌∷◌, ◌++◌, length, Option, Some, None, Ok, pos, ◌+ℤ◌, ◌≤ℤ◌, ◌<ℤ◌, slice_get, Contains}
use Rattle.std.specs.List.{AllByRecursion}
use Rattle.lin.specs.Forms.{Form}
use Rattle.plan.specs.Symbols.{Symbols, form_value}
use Rattle.plan.specs.Certificate.Cells.{grid_symbols}
use Rattle.meaning.specs.Algorithm.{Function, Algorithm}
use Rattle.meaning.specs.Names.{same_name}
use Rattle.sched.specs.declared.schedule.Split.{Split}
use Rattle.sched.specs.declared.numbers.Extent.{Extent}
use Rattle.sched.specs.declared.numbers.Numbers.{Numbers}
use Rattle.sched.specs.Schedule.{Schedule}
use Rattle.sched.specs.Placing.{PlacedText}
use Rattle.sched.specs.Subjects.{places}
use Rattle.sched.specs.Numbers.{loop_numbers, has_short_shift}
use Rattle.sched.specs.Standing.{overruns, is_guarded}
use Rattle.sched.specs.Skeleton.{BodyText, NestText, SkeletonText, bodies_of, skeleton}
use Rattle.sched.specs.Visits.{IsInGrid, arrivals, HasOwnNames}

-- the coordinate comes to a number of the dimension, or an expression of the definition finds it
abbrev pub IsInside : Extent → Option Form → Symbols → Type 0
IsInside e (Some form) s = (e.low ≤ℤ form_value form s) × (form_value form s <ℤ (e.low +ℤ pos e.count))
IsInside e None s = Unit {0}

-- the loop's numbers are kept within it: its split is guarded, or neither runs past the last number nor makes a loop whose numbers are not kept; the splits stand in
-- the order of the text
abbrev pub is_kept : List Numbers → List Split → List Split → List ℕ → Bool
is_kept rs all [] x = true
is_kept rs all (c ∷ cs) x = if same_name c.whole x then is_guarded rs all c || (not (overruns rs c) && (is_kept rs all cs c.outer && is_kept rs all cs c.inner)) else is_kept rs all cs x

-- the first coordinates are those of the dimensions: each is inside, where its variable's numbers are kept
abbrev pub AreInside : (List ℕ → Bool) → List (List ℕ) → List Extent → List (Option Form) → Symbols → Type 0
AreInside kept [] es os s = Unit {0}
AreInside kept (x ∷ xs) [] os s = ⊥
AreInside kept (x ∷ xs) (e ∷ es) [] s = ⊥
AreInside kept (x ∷ xs) (e ∷ es) (o ∷ os) s = (kept x ≡ true → IsInside e o s) × AreInside kept xs es os s

-- whenever some piece comes to the store, its coordinates are those of a point of the region, but in dimensions that are rounded up
abbrev pub StaysInside : Function → PlacedText → List Extent → SkeletonText → NestText → Type 0
StaysInside f p region k n =
    (piece : List ℕ) (s : Symbols) → IsInGrid k.grid piece → Contains (arrivals (k.head ++ n.steps) (grid_symbols piece)) s →
    AreInside (is_kept (loop_numbers f.variables p.cuts region) p.cuts p.cuts) f.variables region n.at s

-- Whatever a schedule says, if no directive breaks a rule, and no loop that is split with shift has fewer numbers than a block: the loops that the schedule makes of a
-- function come to numbers of the region alone in each dimension of which no split is rounded up, or all such are guarded.
abbrev pub SchedulesStayInsideRegions : Type 0
SchedulesStayInsideRegions =
    (a : Algorithm) (s : Schedule) (ps : List PlacedText) (i : ℕ) (f : Function) (p : PlacedText) (region : List Extent) (k : SkeletonText) →
    places a s ≡ Ok ps → slice_get a.functions i ≡ Some f → slice_get ps i ≡ Some p → HasOwnNames f → length region ≡ length f.variables → AllByRecursion (λ e. 0 < e.count) region →
    has_short_shift (loop_numbers f.variables p.cuts region) p.cuts ≡ false → skeleton f p region ≡ Some k →
    (number : ℕ) (b : BodyText) (n : NestText) → slice_get (bodies_of f) number ≡ Some b → slice_get k.nests number ≡ Some n → StaysInside f p region k n
