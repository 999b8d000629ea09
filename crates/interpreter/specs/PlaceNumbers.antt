-- Points whose places are known by their numbers, at each turn of a run.
use Rattle.std.specs.Prelude.{◌≡◌, ℕ, ◌+◌, ◌*◌, List, drop, Some, ℤ, slice_index_or}
use Rattle.plan.specs.Rooms.{Room, seat}
use Rattle.interpreter.specs.Buffers.Blocks.{Block}
use Rattle.interpreter.specs.Buffers.Raster.{room_count}
use Rattle.interpreter.specs.Buffers.Spots.{HasPlace, IsSpot}
use Rattle.interpreter.specs.Updates.{columns_at}
use Rattle.interpreter.specs.declared.evaluation.lanes.Number.{Number}
use Rattle.interpreter.specs.declared.updates.Operand.{Operand}
use Rattle.interpreter.specs.declared.updates.Operand.TheVariants.{Known, Own}
use Rattle.interpreter.specs.declared.updates.Operation.{Operation}
use Rattle.interpreter.specs.declared.updates.Update.{Update}

-- the number of the place at a turn
abbrev pub place_at : List ℕ → ℕ → ℕ
place_at ns k = slice_index_or ns k 0

-- the number of a place with one coordinate more, by that of the place of the later ones
pub record IsOneMore (room : Room) (z : ℤ) (later n : ℕ) : Type 0 where
  pub first : ℕ
  pub is : seat room z ≡ Some first
  pub number : n ≡ later * room_count room + first

-- in the first buffer of this number that is in use, which is the one at this position, the point has the place of this number
pub record StandsAt (blocks : List Block) (b : ℕ) (p : List ℤ) (i n : ℕ) : Type 0 where
  pub spot : IsSpot blocks b p (record { buffer = i; place = n }) 0
  pub inside : HasPlace blocks i n

-- so does an operand's own point at a turn
abbrev pub OperandStands : List Block → ℕ → ℕ → ℕ → Operand → List Number → List ℕ → ℕ → Type 0
OperandStands blocks b n i (Known t) zs places k = Unit {0}
OperandStands blocks b n i (Own w) zs places k = StandsAt blocks b (columns_at n w zs k) i (place_at places k)

-- and those of an operation on two of them
pub record OperationStands (blocks : List Block) (b n i : ℕ) (o : Operation) (zs : List Number) (lefts rights : List ℕ) (k : ℕ) : Type 0 where
  pub left : OperandStands blocks b n i o.left zs lefts k
  pub right : OperandStands blocks b n i o.right (drop o.width zs) rights k

-- and the point that an update stores to, which has so many coordinates
pub record UpdateStands (blocks : List Block) (b size n i : ℕ) (u : Update) (zs : List Number) (points lefts rights : List ℕ) (k : ℕ) : Type 0 where
  pub point : StandsAt blocks b (columns_at n size zs k) i (place_at points k)
  pub operation : OperationStands blocks b n i u.operation (drop u.start zs) lefts rights k
