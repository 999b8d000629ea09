-- How many coordinates buffers have.
use Rattle.std.specs.Prelude.{ℕ, ◌==◌, if◌then◌else◌, List, [], ◌∷◌, length, Option, Some, None, slice_get}
use Rattle.std.specs.Global.{Vec}
use Rattle.plan.specs.Semantics.Setting.{Buffer}
use Rattle.interpreter.specs.declared.sizes.Size.{Size}

-- the coordinates of a buffer that is allocated
abbrev pub size_of : Option Buffer → Option ℕ
size_of None = None
size_of (Some b) = Some (length b.places)

-- the first size that is noted for the buffer
abbrev pub first_size : List Size → ℕ → Option ℕ
first_size [] b = None
first_size (x ∷ xs) b = if x.buffer == b then Some x.dimensions else first_size xs b

abbrev pub or_zero : Option ℕ → ℕ
or_zero None = 0
or_zero (Some n) = n

-- the size of a buffer, 0 where none is noted
abbrev pub size_in : List Size → ℕ → ℕ
size_in xs b = or_zero (first_size xs b)

-- those of one group
abbrev pub sizes_there : Option (Vec Size) → List Size
sizes_there None = []
sizes_there (Some v) = v.items

-- those of the group of a number, of lists for each group
abbrev pub sizes_at : List (Vec Size) → ℕ → List Size
sizes_at all n = sizes_there (slice_get all n)
