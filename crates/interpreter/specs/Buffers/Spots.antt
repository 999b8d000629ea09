-- Where points lie in memory, told by the positions of buffers and the numbers of places.
use Rattle.std.specs.Prelude.{◌≡◌, ℕ, zero, suc, ◌+◌, ◌<◌, ◌==◌, ◌&&◌, List, length, Option, Some, ℤ, position, slice_get, slice_set}
use Rattle.tree.specs.declared.value.Value.{Value}
use Rattle.plan.specs.Semantics.Found.{with}
use Rattle.plan.specs.Semantics.Memory.{Memory, write}
use Rattle.interpreter.specs.Buffers.Blocks.{Block}
use Rattle.interpreter.specs.Buffers.Raster.{LiesAt}
use Rattle.interpreter.specs.declared.buffers.spot.Spot.{Spot}

-- a buffer with a value in the place of this number
abbrev pub with_place : Block → ℕ → Value → Block
with_place block n v = record { number = block.number; limit = block.limit; used = block.used; rooms = block.rooms; places = slice_set block.places n (Some v) }

-- the buffer at this position has a place of this number
pub record HasPlace (blocks : List Block) (i n : ℕ) : Type 0 where
  pub block : Block
  pub there : slice_get blocks i ≡ Some block
  pub inside : n < length block.places

-- the point lies so many places behind the spot, in the first buffer of this number that is in use
pub record IsSpot (blocks : List Block) (b : ℕ) (p : List ℤ) (s : Spot) (k : ℕ) : Type 0 where
  pub first : position (λ block. block.used && (b == block.number)) blocks ≡ Some s.buffer
  pub block : Block
  pub there : slice_get blocks s.buffer ≡ Some block
  pub lies : LiesAt block.rooms p (s.place + k)

-- so many values set one after another, each at its point
abbrev pub set_all : Memory Value → ℕ → (ℕ → List ℤ) → (ℕ → Value) → ℕ → Option (Memory Value)
set_all m b points values zero = Some m
set_all m b points values (suc n) = with (set_all m b points values n) (λ x. write x b (points n) (values n))
