-- Left indices that are no variables.
use Rattle.std.specs.Prelude.{◌≡◌, ◌⊎◌, ℕ, zero, suc, ◌≤◌, pos, ◌+ℤ◌, ◌-ℤ◌, ◌≤ℤ◌, true, List, Option, Some, None, slice_get}
use Rattle.std.specs.List.{AllByRecursion}
use Rattle.numeric.specs.declared.ty.Ty.TheVariants.{I32}
use Rattle.tree.specs.Term.{Term, Terms, End, More}
use Rattle.tree.specs.Typing.{type_of}
use Rattle.lin.specs.Regions.{span_inside}
use Rattle.lin.specs.declared.span.Span1.{Span1}
use Rattle.bounds.specs.Spans.{range_of}
use Rattle.meaning.specs.Algorithm.{Algorithm}
use Rattle.meaning.specs.Names.{is_among}
use Rattle.algo.specs.Scoping.Standing.{Written}
use Rattle.sched.specs.declared.numbers.Extent.{Extent}
use Rattle.sched.specs.Skeleton.{NestText, SkeletonText}
use Rattle.sched.specs.Stored.{FormulaText, StoredText, calls_in}
use Rattle.sched.specs.Called.{called}
use Rattle.sched.specs.Around.{AroundText, interval_in, range_names, ranges_of, head_scope, around}
use Rattle.sched.specs.Regions.{LaidText}
use Rattle.regions.specs.Regions.{add_all_own, region_of}
use Rattle.sched.specs.Bounded.{whole}

-- what the function's own updates set and call, over the loops over its region, widens some reach to that region and no more
abbrev pub IsSettled : Algorithm → StoredText → List FormulaText → LaidText → Type 0
IsSettled a g fs l =
    (reach : _) × (wide : _) × (add_all_own a g (head_scope l.skeleton) 0 fs l.skeleton.nests reach ≡ Some wide) × (region_of g.subject.is_root wide ≡ Some l.region)

-- the index at a place of a call
abbrev pub index_at : Terms → ℕ → Option Term
index_at End j = None
index_at (More e es) zero = Some e
index_at (More e es) (suc j) = index_at es j

-- the index has a type where the reduction variables of the definition of this number alone are known
abbrev pub IsOverRanges : Algorithm → StoredText → ℕ → Term → Type 0
IsOverRanges a g d t = type_of (is_among (range_names (ranges_of g.changes d))) (called a) t ≡ Some I32

-- where a left index is no variable, each index of a call of the function itself at its place is over reduction variables alone, or asking for the region came to
-- an end
abbrev pub ArePlaced : Algorithm → StoredText → List FormulaText → LaidText → Type 0
ArePlaced a g fs l =
    (d j i : ℕ) (f : FormulaText) (e t : Term) (c : Written) → slice_get fs d ≡ Some f → slice_get f.at j ≡ Some (Some e) → slice_get (calls_in f) i ≡ Some c
    → c.name ≡ g.subject.name → index_at c.at j ≡ Some t → IsOverRanges a g d t ⊎ IsSettled a g fs l

-- the numbers of an extent, and perhaps more behind them, which are not far past those of 32 bits
pub record GoesOn (x y : Extent) : Type 0 where
  pub low : y.low ≡ x.low
  pub count : x.count ≤ y.count
  pub last : (y.low +ℤ pos y.count -ℤ pos 1) ≤ℤ pos 4294967296

-- each left index that is no variable is shown to lie in the numbers of its dimension, and to be a number of 32 bits, as the checker tests it
abbrev pub AreLeftsHeld : Algorithm → StoredText → List FormulaText → List Extent → SkeletonText → Type 0
AreLeftsHeld a g fs region k =
    (d : ℕ) (f : FormulaText) (w : NestText) (r : AroundText) → slice_get fs d ≡ Some f → slice_get k.nests d ≡ Some w → around a g (head_scope k) w f d ≡ Some r
    → (j : ℕ) (e : Term) (x y : Extent) (s : Span1) → slice_get f.at j ≡ Some (Some e) → slice_get region j ≡ Some x → GoesOn x y → slice_get r.coordinates j ≡ Some s
    → (span_inside r.scope s (whole y) ≡ true) × (span_inside r.scope s (range_of I32) ≡ true)

-- at such a place each index of a call of the function itself is shown to lie there, too
abbrev pub AreOwnHeld : Algorithm → StoredText → List FormulaText → List Extent → SkeletonText → Type 0
AreOwnHeld a g fs region k =
    (d : ℕ) (f : FormulaText) (w : NestText) (r : AroundText) → slice_get fs d ≡ Some f → slice_get k.nests d ≡ Some w → around a g (head_scope k) w f d ≡ Some r
    → AllByRecursion (λ c. c.name ≡ g.subject.name → (j : ℕ) (e t : Term) (x y : Extent) (s : Span1) → slice_get f.at j ≡ Some (Some e) → slice_get region j ≡ Some x → GoesOn x y
    → index_at c.at j ≡ Some t → interval_in a r t ≡ Some s → span_inside r.scope s (whole y) ≡ true) (calls_in f)
