-- How the pieces of a plan part its cells among them.
use Rattle.std.specs.Prelude.{◌≡◌, ℕ, ◌<◌, List, [], ◌∷◌, length, Some, ℤ, true, false, ◌&&◌, slice_get}
use Rattle.std.specs.List.{AllByRecursion, list_any}
use Rattle.lin.specs.declared.span.Span1.{Span1}
use Rattle.plan.specs.Plan.{Group, Plan}
use Rattle.plan.specs.Certificate.Certificate.{Certificate}
use Rattle.plan.specs.Certificate.Cells.{cells, pieces, own_region, is_in_region, no_symbols, grid_point, grid_symbols, group_pieces}
use Rattle.meaning.specs.Algorithm.{Algorithm}
use Rattle.meaning.specs.Image.Raster.{is_within}
use Rattle.meaning.specs.Names.{same_name}
use Rattle.orders.specs.Work.{OwnIsInTable, OwnIsApart, OwnIsWhole, NeedsIsEarlier, FetchedIsNeeded}
use Rattle.headline.specs.Numbers.{HaveEnds}
use Rattle.headline.specs.Head.{SameInput, SameOutput}
use Rattle.shares.specs.Layout.{own_list, fetched_list, needs_list, FetchesCells, OwnIsInside}
use Rattle.shares.specs.Has.{NeedsPieces}
use Rattle.sched.specs.declared.schedule.Split.{Split}
use Rattle.sched.specs.declared.placing.Loop.{Loop}
use Rattle.sched.specs.Placing.{is_parallel}
use Rattle.sched.specs.Schedule.{Schedule}
use Rattle.lower.specs.Stored.{stored_functions}

-- the plan's name, input and output are the algorithm's
pub record HasOwnHead (a : Algorithm) (p : Plan) : Type 0 where
  pub name : p.name ≡ a.name
  pub input : SameInput a p.input
  pub output : SameOutput a p.output

-- what a piece fetches are cells, what it needs are earlier pieces, and each fetched cell is a needed piece's own
pub record AreServed (p : Plan) (c : Certificate) : Type 0 where
  pub cells : (n : ℕ) → FetchesCells p n
  pub grid : (n : ℕ) → NeedsPieces p c n
  pub earlier : NeedsIsEarlier (length (pieces p)) (needs_list p c)
  pub needed : FetchedIsNeeded (length (pieces p)) (own_list p c) (fetched_list p) (needs_list p c)

-- each point that a piece owns is one of its group's region, each cell stands in one place of one piece's own list, and in none twice
pub record ArePartedCells (p : Plan) (c : Certificate) : Type 0 where
  pub inside : (n : ℕ) → OwnIsInside p c n
  pub in_table : OwnIsInTable (length (pieces p)) (length (cells p)) (own_list p c)
  pub apart : OwnIsApart (length (pieces p)) (own_list p c)
  pub whole : OwnIsWhole (length (pieces p)) (length (cells p)) (own_list p c)

-- some group is the output's, and each that is has each point of the output's extents
pub record HasWholeOutput (a : Algorithm) (p : Plan) : Type 0 where
  pub number : ℕ
  pub group : Group
  pub stands : slice_get p.groups number ≡ Some group
  pub function : group.function ≡ a.output
  pub inside : (n : ℕ) (g : Group) → slice_get p.groups n ≡ Some g → g.function ≡ a.output → (q : List ℤ) → is_within a.output_extents q ≡ true → is_in_region no_symbols g.region q ≡ true

-- ---- group by group

-- the k-th piece of the group has the point in this region, which is told over its grid
abbrev pub HasPoint : Group → List Span1 → ℕ → List ℤ → Type 0
HasPoint g r k q = is_in_region (grid_symbols (grid_point g.grid k)) r q ≡ true

-- the pieces of a group own this region: it lies in the group's, each point of that is some piece's, and no other piece's
pub record PartsGroup (g : Group) (r : List Span1) : Type 0 where
  pub group_ends : HaveEnds g.region
  pub own_ends : HaveEnds r
  pub inside : (k : ℕ) (q : List ℤ) → k < group_pieces g → HasPoint g r k q → is_in_region no_symbols g.region q ≡ true
  pub owner : (q : List ℤ) → is_in_region no_symbols g.region q ≡ true → (k : ℕ) × (k < group_pieces g) × HasPoint g r k q
  pub once : (q : List ℤ) (j k : ℕ) → j < group_pieces g → k < group_pieces g → HasPoint g r j q → HasPoint g r k q → j ≡ k

-- by its own line
pub record IsPartedGroup (c : Certificate) (n : ℕ) (g : Group) : Type 0 where
  pub region : List Span1
  pub told : own_region c.own n ≡ Some region
  pub parts : PartsGroup g region

abbrev pub ArePartedGroups : Plan → Certificate → Type 0
ArePartedGroups p c = (n : ℕ) (g : Group) → slice_get p.groups n ≡ Some g → IsPartedGroup c n g

-- ---- of a schedule

-- where these are a function's loops: none of these splits makes an inner loop that is parallel, or that one behind it splits again
abbrev pub KeepsInner : List Loop → List Split → Type 0
KeepsInner ls [] = Unit {0}
KeepsInner ls (c ∷ cs) = (list_any (λ l. is_parallel l && same_name l.name c.inner) ls ≡ false) × (list_any (λ d. same_name d.whole c.inner) cs ≡ false) × KeepsInner ls cs

-- so it is of each stored function
abbrev pub InnersAreKept : Algorithm → Schedule → Type 0
InnersAreKept a s = AllByRecursion (λ g. KeepsInner g.placed.loops g.placed.cuts) (stored_functions a s)
