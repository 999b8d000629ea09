-- What buffers hold, as lists, and the memory that such lists show.
use Rattle.std.specs.Prelude.{◌≡◌, ℕ, ◌==◌, ◌&&◌, ◌≤◌, Bool, true, false, if◌then◌else◌, List, Option, Some, None, ℤ, find, All, map, option_map, slice_index_or}
use Rattle.std.specs.List.{list_any, AllByRecursion}
use Rattle.tree.specs.declared.value.Value.{Value}
use Rattle.plan.specs.Rooms.{Room, place, same_place}
use Rattle.plan.specs.Semantics.Memory.{Memory}
use Rattle.interpreter.specs.Buffers.Raster.{place_number}
use Rattle.interpreter.specs.declared.buffers.limit.Limit.{Limit}

-- a buffer: its number, for how many places there is memory, whether it is in use, the places of each coordinate, and
-- what the places hold in raster order
pub record Block : Type 0 where
  pub number : ℕ
  pub limit : ℕ
  pub used : Bool
  pub rooms : List Room
  pub places : List (Option Value)

-- what the place of this number holds
abbrev pub held_by_number : List (Option Value) → Option ℕ → Option Value
held_by_number places None = None
held_by_number places (Some n) = slice_index_or places n None

-- what a place of the buffer holds
abbrev pub held_in : Block → List ℕ → Option Value
held_in block at = held_by_number block.places (place_number block.rooms at)

-- the same, and nothing where there is no buffer
abbrev pub held_in_some : Option Block → List ℕ → Option Value
held_in_some None at = None
held_in_some (Some block) at = held_in block at

-- the first buffer of this number that is in use
abbrev pub block_of : List Block → ℕ → Option Block
block_of blocks b = find (λ block. block.used && (b == block.number)) blocks

-- the memory that buffers show
abbrev pub memory_of : List Block → Memory Value
memory_of blocks = record {
  rooms = λ b. option_map (λ block. block.rooms) (block_of blocks b);
  held = λ b at. held_in_some (block_of blocks b) at;
}

-- a buffer after a value was set at a point, and nothing else
pub record IsSetAt (old new : Block) (p : List ℤ) (value : Value) : Type 0 where
  pub number : new.number ≡ old.number
  pub limit : new.limit ≡ old.limit
  pub used : new.used ≡ old.used
  pub rooms : new.rooms ≡ old.rooms
  pub at : List ℕ
  pub lies : place old.rooms p ≡ Some at
  pub held : (q : List ℕ) → held_in new q ≡ (if same_place q at then Some value else held_in old q)

-- a buffer out of use
abbrev pub unused : Block → Block
unused block = record { number = block.number; limit = block.limit; used = false; rooms = block.rooms; places = block.places }

-- for how many places each buffer has memory
abbrev pub limits_of : List Block → List Limit
limits_of blocks = map (λ block. record { buffer = block.number; places = block.limit }) blocks

-- there is a buffer of this number, and each of the number has memory for so many places
pub record HasMemoryFor (limits : List Limit) (b n : ℕ) : Type 0 where
  pub there : list_any (λ x. b == x.buffer) limits ≡ true
  pub each : All (λ x. x.buffer ≡ b → n ≤ x.places) limits

-- there is a buffer of this number
abbrev pub IsNumbered : List Block → ℕ → Type 0
IsNumbered blocks b = list_any (λ l. b == l.buffer) (limits_of blocks) ≡ true

-- each of these limits has a buffer of its number
abbrev pub AreNumbered : List Limit → List Block → Type 0
AreNumbered limits blocks = All (λ x. IsNumbered blocks x.buffer) limits

-- buffers out of use, each with memory for the most places of a limit of its number
pub record IsMadeFor (limits : List Limit) (blocks : List Block) : Type 0 where
  pub unused : AllByRecursion (λ block. block.used ≡ false) blocks
  pub most : AllByRecursion (λ block. All (λ x. x.buffer ≡ block.number → x.places ≤ block.limit) limits) blocks
