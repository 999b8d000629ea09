-- Need lines that are looked at for pieces that stand one after another.
use Rattle.std.specs.Prelude.{◌≡◌, ℕ, ◌≤◌, ◌<◌, List, [], map, length, Some, All, Contains, ◌⊎◌, slice_get, slice_index_or}
use Rattle.plan.specs.Plan.{Plan}
use Rattle.plan.specs.Symbols.{points}
use Rattle.plan.specs.declared.certificate.cert.Need.{Need}
use Rattle.plan.specs.Certificate.Cells.{grid_symbols}
use Rattle.shares.specs.declared.blocks.Block.{Block}
use Rattle.shares.specs.declared.blocks.Walk.{Walk}
use Rattle.shares.specs.declared.gathered.GroupNeeds.{GroupNeeds}
use Rattle.shares.specs.declared.seats.Seat.{Seat}
use Rattle.shares.specs.Boxes.{IsLimited}
use Rattle.shares.specs.Corners.{IsBetween}
use Rattle.shares.specs.Filed.{AreLinesOf}
use Rattle.shares.specs.Outer.{LiesAtOne}

-- lines whose regions are in forms within the limits
abbrev pub LinesAreLimited : List Need → Type 0
LinesAreLimited ns = All (λ n. IsLimited n.region) ns

-- need lines of each of so many groups
pub record HaveLinesOf (p : Plan) (groups : ℕ) (gathered : List GroupNeeds) : Type 0 where
  pub count : length gathered ≡ groups
  pub each : (g : ℕ) (y : GroupNeeds) → slice_get gathered g ≡ Some y → AreLinesOf p g (map (λ n. n.now) y.moving.items)

-- pieces of a group with at most so many coordinates
abbrev pub AreOf : (group count : ℕ) → List Seat → Type 0
AreOf group count xs = All (λ x. (x.group ≡ group) × (length x.at.items ≤ count)) xs

-- numbers that no coordinate of these pieces at their places is less than, or more than
abbrev pub AreLows : List Seat → List ℕ → Type 0
AreLows xs low = (i v : ℕ) → slice_get low i ≡ Some v → All (λ x. v ≤ slice_index_or x.at.items i 0) xs

abbrev pub AreHighs : List Seat → List ℕ → Type 0
AreHighs xs high = (i v : ℕ) → slice_get high i ≡ Some v → All (λ x. slice_index_or x.at.items i 0 ≤ v) xs

-- some of these lines, of which each that is left out names at a grid point no more than one of them, or no point
pub record AreThoseAt (at : List ℕ) (ms ns : List Need) : Type 0 where
  pub among : (m : Need) → Contains ms m → Contains ns m
  pub left : (n : Need) → Contains ns n → LiesAtOne at n ms ⊎ (points (grid_symbols at) n.region ≡ [])

-- nor at any between two
abbrev pub AreThoseBetween : (low high : List ℕ) → (ms ns : List Need) → Type 0
AreThoseBetween low high ms ns = (at : List ℕ) → IsBetween low high at → AreThoseAt at ms ns

-- the lines of a block are looked at for a piece of it in place of those of the piece's group
abbrev pub StandFor : List Seat → List GroupNeeds → (piece : ℕ) → List Need → Type 0
StandFor seats gathered piece ms = (s : Seat) (y : GroupNeeds) → slice_get seats piece ≡ Some s → slice_get gathered s.group ≡ Some y → AreThoseAt s.at.items ms (map (λ n. n.now) y.moving.items)

-- for each piece from this one on as far as the block reaches
abbrev pub IsBlockFrom : List Seat → List GroupNeeds → (first : ℕ) → Block → Type 0
IsBlockFrom seats gathered first b = (k : ℕ) → first ≤ k → k < b.end → StandFor seats gathered k (map (λ n. n.now) b.moving.items)

-- a block whose pieces are those of one group, with the lines that may name a point there of these
abbrev pub IsBlockOf : List Seat → (first : ℕ) → List Need → Block → Type 0
IsBlockOf seats first ns b = (k : ℕ) (s f : Seat) → first ≤ k → k < b.end → slice_get seats k ≡ Some s → slice_get seats first ≡ Some f → (s.group ≡ f.group) × AreThoseAt s.at.items (map (λ n. n.now) b.moving.items) ns

-- the blocks in which a piece stands
pub record IsWalkFrom (seats : List Seat) (gathered : List GroupNeeds) (first : ℕ) (w : Walk) : Type 0 where
  pub large : IsBlockFrom seats gathered first w.large
  pub middle : IsBlockFrom seats gathered first w.middle
  pub lesser : IsBlockFrom seats gathered first w.lesser
  pub small : IsBlockFrom seats gathered first w.small
