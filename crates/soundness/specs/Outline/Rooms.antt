-- Buffers, noted in the order in which they are allocated.
use Rattle.std.specs.Prelude.{ℕ, ◌==◌, if◌then◌else◌, List, [], ◌∷◌, ◌≡◌, Option, Some, None}
use Rattle.plan.specs.Plan.{Statement}
use Rattle.plan.specs.declared.stmt.Places.{Places}
use Rattle.plan.specs.Semantics.Setting.{Buffer, allocated}
use Rattle.soundness.specs.declared.outline.rooms.Room.{Room}

abbrev pub buffer_of : Room → Buffer
buffer_of x = record { function = x.function.now; places = x.places.now }

-- the first room that is noted for the buffer
abbrev pub first_room : List Room → ℕ → Option Buffer
first_room [] b = None
first_room (x ∷ xs) b = if x.buffer == b then Some (buffer_of x) else first_room xs b

-- the places of a buffer, if there is one
abbrev pub places_in : Option Buffer → Option (List Places)
places_in None = None
places_in (Some x) = Some x.places

-- each buffer has the room that the first line that allocates it in the statement gives
abbrev pub AreNoted : List Room → Statement → Type 0
AreNoted rooms body = (b : ℕ) → first_room rooms b ≡ allocated body b
