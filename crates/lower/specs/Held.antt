-- What the regions of functions, and what their pieces fetch of each other, hold: each point that a definition calls at its store.
use Rattle.std.specs.Prelude.{◌≡◌, ◌<◌, ◌++◌, Contains, ℕ, ℤ, pos, ◌-ℤ◌, Bool, true, false, IsSome, List, length, map, Option, Some, None, slice_get}
use Rattle.std.specs.List.{AllByRecursion}
use Rattle.numeric.specs.Wrap.{IsOf}
use Rattle.numeric.specs.declared.ty.Ty.{Ty}
use Rattle.numeric.specs.declared.ty.Ty.TheVariants.{I32}
use Rattle.tree.specs.declared.value.Value.{Value}
use Rattle.tree.specs.Term.{Terms, End, More}
use Rattle.tree.specs.Meaning.{numbers_of}
use Rattle.tree.specs.Names.{AreAsTold}
use Rattle.tree.specs.Typing.{type_of}
use Rattle.lin.specs.Spans.{HoldsIn, IsInSpan, IsInRegion}
use Rattle.lin.specs.declared.scope.Binding.{Binding}
use Rattle.lin.specs.declared.span.Span1.{Span1}
use Rattle.bounds.specs.Spans.{numbers}
use Rattle.plan.specs.Symbols.{Symbols}
use Rattle.plan.specs.Certificate.Cells.{grid_symbols}
use Rattle.plan.specs.Rooms.{place, room}
use Rattle.meaning.specs.Algorithm.{Algorithm}
use Rattle.meaning.specs.Names.{same_name}
use Rattle.algo.specs.Scoping.Standing.{Written}
use Rattle.sched.specs.declared.numbers.Extent.{Extent}
use Rattle.sched.specs.Skeleton.{NestText, SkeletonText}
use Rattle.sched.specs.Visits.{IsInGrid, arrivals}
use Rattle.sched.specs.Called.{called}
use Rattle.sched.specs.Stored.{FormulaText, StoredText, calls_in}
use Rattle.sched.specs.Around.{AroundText, around, bind_steps, grid_scope, head_scope}
use Rattle.sched.specs.Regions.{LaidText, counts}
use Rattle.regions.specs.Regions.{laid_functions, skeleton_of}
use Rattle.sched.specs.Bounded.{whole}
use Rattle.lower.specs.Faults.{region_fault}
use Rattle.sched.specs.Taken.{SiteText}
use Rattle.regions.specs.Taken.{sites_of, taken_places, taken_region}
use Rattle.regions.specs.Demanded.{needed_region}

-- each index has a type, where these are the variables, and these the types of what is called
abbrev pub AreTyped : (List ℕ → Bool) → (List ℕ → Option (Ty × ℕ)) → Terms → Type 0
AreTyped known functions End = Unit {0}
AreTyped known functions (More e es) = IsSome (type_of known functions e) × AreTyped known functions es

-- A definition of the function u calls the function of this name at this point, where its store stands in the loops over this region and the
-- symbols are these numbers: they fit the loops and lets, the variables lie in what is known of them, and calls answer values of their types.
pub record CallsAt (a : Algorithm) (u : StoredText) (l : LaidText) (x : List ℕ) (v : ℕ → ℤ) (p : List ℤ) : Type 0 where
  pub number : ℕ
  pub formulas : List FormulaText
  pub formula : FormulaText
  pub nest : NestText
  pub standing : AroundText
  pub defined : u.formulas ≡ Some formulas
  pub is : slice_get formulas number ≡ Some formula
  pub nested : slice_get l.skeleton.nests number ≡ Some nest
  pub stands : around a u (head_scope l.skeleton) nest formula number ≡ Some standing
  pub place : ℕ
  pub call : Written
  pub there : slice_get (calls_in formula) place ≡ Some call
  pub named : same_name call.name x ≡ true
  pub variables : List ℕ → Bool
  pub numbers : List ℕ → ℤ
  pub answers : List ℕ → List ℤ → Value
  pub typed : AreTyped variables (called a) call.at
  pub told : AreAsTold variables (called a) numbers answers
  pub fits : HoldsIn standing.scope v
  pub within : IsInRegion standing.coordinates v (map numbers standing.variables)
  pub point : p ≡ numbers_of numbers answers call.at

-- of stored functions in the order of declaration, this is the one of this number, with the region that is needed of it
pub record IsLaid (a : Algorithm) (gs : List StoredText) (n : ℕ) (g : StoredText) (l : LaidText) : Type 0 where
  pub is : slice_get gs n ≡ Some g
  pub laid : slice_get (laid_functions a gs) n ≡ Some (Some l)

-- each point that a later function calls of a function is one of its region
abbrev pub RegionsHoldCalls : Type 0
RegionsHoldCalls =
    (a : Algorithm) (gs : List StoredText) (i j : ℕ) (g u : StoredText) (l m : LaidText) → IsLaid a gs i g l → IsLaid a gs j u m → i < j
    → (v : ℕ → ℤ) (p : List ℤ) → CallsAt a u m g.subject.name v p → length p ≡ length l.region → IsInRegion (map whole l.region) v p

-- and it is one of those that its piece fetches, whatever the piece
abbrev pub FetchesHoldCalls : Type 0
FetchesHoldCalls =
    (a : Algorithm) (gs : List StoredText) (i j : ℕ) (g u : StoredText) (l m : LaidText) → IsLaid a gs i g l → IsLaid a gs j u m → i < j
    → (fs : List FormulaText) (ss : List SiteText) → u.formulas ≡ Some fs → sites_of a u fs m.skeleton g.subject.name ≡ Some ss
    → (v : ℕ → ℤ) (p : List ℤ) → CallsAt a u m g.subject.name v p → length p ≡ length l.region
    → IsInRegion (taken_region (grid_scope m.skeleton.grid) ss 0 l.region) v p

-- and it has a place in the buffer that the piece has for them
abbrev pub FetchesHavePlaces : Type 0
FetchesHavePlaces =
    (a : Algorithm) (gs : List StoredText) (i j : ℕ) (g u : StoredText) (l m : LaidText) → IsLaid a gs i g l → IsLaid a gs j u m → i < j
    → (fs : List FormulaText) (ss : List SiteText) → u.formulas ≡ Some fs → sites_of a u fs m.skeleton g.subject.name ≡ Some ss
    → (s : Symbols) (p : List ℤ) → CallsAt a u m g.subject.name s.value p → length p ≡ length l.region
    → IsSome (place (map (room s) (taken_places (grid_scope m.skeleton.grid) ss 0 l.region)) p)

-- each point of the output's extents is one of the region of the function that is the output
abbrev pub OutputHoldsExtents : Type 0
OutputHoldsExtents =
    (a : Algorithm) (gs : List StoredText) (i : ℕ) (g : StoredText) (l : LaidText) → IsLaid a gs i g l → g.subject.is_output ≡ true
    → (v : ℕ → ℤ) (p : List ℤ) → IsInRegion (map (λ n. numbers (pos 0) (pos n -ℤ pos 1)) a.output_extents) v p → length p ≡ length l.region
    → IsInRegion (map whole l.region) v p

-- where no function breaks a rule by its region, each point of the input that a definition calls is one of its extents
abbrev pub InputHoldsCalls : Type 0
InputHoldsCalls =
    (a : Algorithm) (gs : List StoredText) (i : ℕ) (u : StoredText) (m : LaidText) → IsLaid a gs i u m → region_fault a gs ≡ None
    → (v : ℕ → ℤ) (p : List ℤ) → CallsAt a u m a.input v p → length p ≡ length a.input_extents
    → IsInRegion (map (λ n. numbers (pos 0) (pos n -ℤ pos 1)) a.input_extents) v p

-- and where a definition calls its own function, each index at a place where its left index is not the variable is a number of the region's
abbrev pub RegionsHoldOwnCalls : Type 0
RegionsHoldOwnCalls =
    (a : Algorithm) (gs : List StoredText) (i : ℕ) (u : StoredText) (m : LaidText) → IsLaid a gs i u m → region_fault a gs ≡ None
    → (v : ℕ → ℤ) (p : List ℤ) (c : CallsAt a u m u.subject.name v p) → same_name c.call.name a.input ≡ false
    → (d : ℕ) (e : Extent) (z : ℤ) → counts (Some c.formula) d ≡ true → slice_get m.region d ≡ Some e → slice_get p d ≡ Some z → IsInSpan (whole e) v z

-- whenever some piece comes to the store of a definition, the symbols fit what is known around it
abbrev pub ArrivalsFit : Type 0
ArrivalsFit =
    (g : StoredText) (fs : List FormulaText) (region : List Extent) (k : SkeletonText) → skeleton_of g fs region ≡ Some k
    → (number : ℕ) (n : NestText) → slice_get k.nests number ≡ Some n
    → (piece : List ℕ) (s : Symbols) → IsInGrid k.grid piece → Contains (arrivals (k.head ++ n.steps) (grid_symbols piece)) s
    → HoldsIn (bind_steps (head_scope k) n.steps) s.value

-- Each call at one of these sites, where the symbols are numbers that fit what stands around it, is a point of what is needed by them all at a place: this stands around
-- each of them too, so what is needed is over its symbols alone. Where some update sets points elsewhere in a dimension, that is all of it.
abbrev pub NeedsHoldCalls : Type 0
NeedsHoldCalls =
    (scope : List Binding) (g : StoredText) (es : List Extent) (ss : List SiteText) (q : List Span1) → needed_region scope ss g es ≡ Some q
    → (n m : ℕ) (t : SiteText) (more : List Binding) (c : List Span1) → slice_get ss n ≡ Some t → t.scope ≡ scope ++ more → slice_get t.calls m ≡ Some c
    → (v : ℕ → ℤ) (p : List ℤ) → HoldsIn t.scope v → IsInRegion c v p → AllByRecursion (IsOf I32) p → IsInRegion (map whole es) v p → IsInRegion q v p
