-- Where a line lies, seen from a statement or from a group.
use Rattle.std.specs.Prelude.{◌≡◌, ℕ, ◌+◌, ◌<◌, Option, Some, None}
use Rattle.plan.specs.Plan.{Statement, Statements, Group}
use Rattle.plan.specs.Lines.{lines, block_lines, group_lines}
use Rattle.validation.specs.Certificate.Placing.{Spot, spot_at, first_at, later_at, block_spot_at, group_spot_at}
use Rattle.validation.specs.declared.certificate.spot.Spot.{Spot as SpotHeld}
use Rattle.validation.specs.declared.certificate.placing.Way.{Way}
use Rattle.validation.specs.declared.certificate.placing.Way.TheVariants.{Ends, Within, Past}
use Rattle.validation.specs.declared.certificate.placing.Seen.{Seen}
use Rattle.validation.specs.declared.certificate.placing.Seen.TheVariants.{Here, Inside, Behind}

-- where a statement stands, in memory
abbrev pub spot_of : SpotHeld → Spot
spot_of x = record { symbols = x.symbols.items; loops = x.loops.items; buffers = x.buffers.items }

-- Of so many lines, at one of which, counted from 0, a statement ends that stands so, or none does: one ends there, and where it
-- stands is noted; or none does; or the line lies so many lines behind the last one, and all is as before.
abbrev pub IsWay : ℕ → Option Spot → ℕ → Spot → Spot → Way → Type 0
IsWay count at k old new Ends = (k < count) × (at ≡ Some new)
IsWay count at k old new Within = (k < count) × (at ≡ None)
IsWay count at k old new (Past n) = (count + n ≡ k) × (new ≡ old)

abbrev pub IsWayIn : Statement → ℕ → Spot → Spot → Way → Type 0
IsWayIn a k old new way = IsWay (lines a) (spot_at a old k) k old new way

abbrev pub IsWayInFirst : Statement → ℕ → Spot → Spot → Way → Type 0
IsWayInFirst a k old new way = IsWay (lines a + 1) (first_at (spot_at a old) k) k old new way

abbrev pub IsWayInLater : Statement → ℕ → Spot → Spot → Way → Type 0
IsWayInLater b k old new way = IsWay (lines b + 2) (later_at (lines b) (spot_at b old) old k) k old new way

abbrev pub IsWayInBlock : Statements → ℕ → Spot → Spot → Way → Type 0
IsWayInBlock all k old new way = IsWay (block_lines all) (block_spot_at all old k) k old new way

-- the line is one of the group's, at which a statement ends that stands so, or none does, or lies behind them
abbrev pub IsSeen : Group → ℕ → Seen → Type 0
IsSeen g k (Here x) = (k < group_lines g) × (group_spot_at g k ≡ Some (spot_of x))
IsSeen g k Inside = (k < group_lines g) × (group_spot_at g k ≡ None)
IsSeen g k (Behind n) = group_lines g + n ≡ k
