-- To which pieces a number of a loop belongs, by the turns of the parallel loops; and what is so of the blocks that pieces own.
use Rattle.std.specs.Prelude.{◌≡◌, ℕ, ◌<◌, ℤ, pos, negsuc, ◌+ℤ◌, ◌-ℤ◌, ◌≤ℤ◌, Bool, true, false, if◌then◌else◌, List, [], ◌∷◌, length, map, Option, Some, None, Ok}
use Rattle.std.specs.List.{AllByRecursion, list_any}
use Rattle.numeric.specs.Apply.{quotient, remainder}
use Rattle.lin.specs.Spans.{IsInRegion}
use Rattle.lin.specs.declared.span.Span1.{Span1}
use Rattle.plan.specs.Certificate.Cells.{grid_value}
use Rattle.meaning.specs.Names.{same_name}
use Rattle.sched.specs.declared.schedule.Split.{Split}
use Rattle.sched.specs.declared.placing.Loop.{Loop}
use Rattle.sched.specs.declared.numbers.Extent.{Extent}
use Rattle.sched.specs.declared.numbers.Numbers.{Numbers}
use Rattle.sched.specs.Schedule.{DirectiveText}
use Rattle.sched.specs.Placing.{has_double, start, all_in}
use Rattle.sched.specs.Numbers.{numbers_named}
use Rattle.sched.specs.Skeleton.{SkeletonText}
use Rattle.sched.specs.Visits.{IsInExtents, IsInGrid}
use Rattle.sched.specs.Stored.{FormulaText, StoredText}
use Rattle.regions.specs.Regions.{skeleton_of}
use Rattle.blocks.specs.Blocks.{PartText, Whole, Run, Scattered, part_of, lay_over, dimensions_of, owned_region}
use Rattle.regions.specs.Needs.{pieces_needed}

-- ---- turns

-- the turn of the parallel loop of this name at a grid point, where these are the parallel loops; None where none has the name
abbrev pub turn_named : List Loop → List ℕ → List ℕ → Option ℕ
turn_named [] piece x = None
turn_named (l ∷ ls) [] x = None
turn_named (l ∷ ls) (n ∷ ns) x = if same_name l.name x then Some n else turn_named ls ns x

-- the number of a loop that is a piece's turn of it; each number, where the loop is not parallel
abbrev pub IsTurn : Numbers → Option ℕ → ℤ → Type 0
IsTurn r None z = Unit {0}
IsTurn r (Some n) z = z ≡ r.low +ℤ pos n

-- the block of a split in which a number of its loop falls, and the place there
abbrev pub block_of : Split → Numbers → ℤ → ℤ
block_of c r z = quotient (z -ℤ r.low) (pos c.factor)

abbrev pub place_of : Split → Numbers → ℤ → ℤ
place_of c r z = remainder (z -ℤ r.low) (pos c.factor)

abbrev pub EitherBy : Bool → Type 0 → Type 0 → Type 0
EitherBy true a b = a
EitherBy false a b = b

-- A number of a loop belongs to a piece: of a split loop, where its block belongs to it as a number of the outer loop, and its place in the block as one of the inner
-- loop; these are the splits that are not looked at yet.
module _ (rs : List Numbers) (turn : List ℕ → Option ℕ) where
  abbrev pub Belongs : List Split → List ℕ → ℤ → Type 0
  Belongs [] x z = IsTurn (numbers_named rs x) (turn x) z
  Belongs (c ∷ cs) x z =
      EitherBy (same_name c.whole x) (Belongs cs c.outer (block_of c (numbers_named rs c.whole) z) × Belongs cs c.inner (place_of c (numbers_named rs c.whole) z)) (Belongs cs x z)

-- ---- blocks

abbrev pub is_scattered : PartText → Bool
is_scattered Whole = false
is_scattered (Run b) = false
is_scattered Scattered = true

-- in some dimension what belongs to a piece is no block: a parallel loop is the inner one of a split of which more than one number of the outer loop belongs to the piece
abbrev pub has_scattered : StoredText → List Extent → SkeletonText → Bool
has_scattered g region k = list_any (λ x. is_scattered (part_of (lay_over g region k) x g.placed.cuts)) g.subject.variables

-- the point is one that the piece owns
abbrev pub IsOwned : StoredText → List Extent → SkeletonText → List ℕ → List ℤ → Type 0
IsOwned g region k piece q = IsInRegion (owned_region (dimensions_of g region k)) (grid_value piece) q

-- some numbers of 32 bits, as they stand in a region
pub record IsExtent (e : Extent) : Type 0 where
  pub some : 0 < e.count
  pub few : e.count < 4294967296
  pub from : negsuc 2147483647 ≤ℤ e.low
  pub to : e.low ≤ℤ pos 2147483647

-- the skeleton is that of a function over this region, whose loops are what some directives make of its variables
pub record IsLaidBy (g : StoredText) (region : List Extent) (k : SkeletonText) : Type 0 where
  pub formulas : List FormulaText
  pub directives : List DirectiveText
  pub variables : has_double g.subject.variables ≡ false
  pub placed : all_in g.subject directives (start g.subject) ≡ Ok g.placed
  pub long : length region ≡ length g.subject.variables
  pub extents : AllByRecursion IsExtent region
  pub laid : skeleton_of g formulas region ≡ Some k

-- the blocks of the pieces make up the region: what a piece owns are points of it, each point is owned, and by one piece alone, where each piece has a block
pub record MakeUp (g : StoredText) (region : List Extent) (k : SkeletonText) : Type 0 where
  pub inside : (piece : List ℕ) (q : List ℤ) → IsInGrid k.grid piece → IsOwned g region k piece q → IsInExtents region q
  pub owner : (q : List ℤ) → IsInExtents region q → (piece : List ℕ) × IsInGrid k.grid piece × IsOwned g region k piece q
  pub once : has_scattered g region k ≡ false → (q : List ℤ) (a b : List ℕ) → IsInGrid k.grid a → IsInGrid k.grid b → IsOwned g region k a q → IsOwned g region k b q → a ≡ b

-- ---- laws

-- whatever a schedule says of a root function, the blocks that its pieces own make up its region
abbrev pub BlocksMakeUpRegions : Type 0
BlocksMakeUpRegions = (g : StoredText) (region : List Extent) (k : SkeletonText) → IsLaidBy g region k → MakeUp g region k

-- the grid point is one of the pieces that a need line names, where its forms have these values
abbrev pub IsNamed : List Span1 → (ℕ → ℤ) → List ℕ → Type 0
IsNamed needed v piece = IsInRegion needed v (map pos piece)

-- A piece that owns a point of what another piece fetches is one of those that the need line of the other names at its grid point; where each piece has a block.
abbrev pub NeedsNameOwners : Type 0
NeedsNameOwners =
    (g : StoredText) (region : List Extent) (k : SkeletonText) → IsLaidBy g region k → has_scattered g region k ≡ false →
    (taken : List Span1) (v : ℕ → ℤ) (q : List ℤ) (piece : List ℕ) → IsInRegion taken v q → IsInGrid k.grid piece → IsOwned g region k piece q →
    IsNamed (pieces_needed g region k.grid taken) v piece
