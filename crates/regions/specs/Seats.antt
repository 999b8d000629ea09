-- The places of the buffer of a function that is computed inside loops: from which form on in each dimension, and how many.
use Rattle.std.specs.Prelude.{ℕ, nat_lt, ◌&&◌, if◌then◌else◌, List, length, Option, Some, None, slice_set}
use Rattle.plan.specs.declared.stmt.Places.{Places}
use Rattle.plan.specs.declared.stmt.Places.TheVariants.{Folded}

-- folded in the dimension in which the function slides
abbrev pub folded : Option ℕ → ℕ → List Places → List Places
folded None n ps = ps
folded (Some d) n ps = if nat_lt 0 n && nat_lt d (length ps) then slice_set ps d (Folded n) else ps
