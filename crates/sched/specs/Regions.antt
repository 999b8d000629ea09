-- The region that is needed of a stored function: the hull of what the definitions of the others call of it, of the output its extents
-- too, and of what its own updates set and call.
use Rattle.std.specs.Prelude.{ℕ, zero, suc, ◌+◌, ℤ, pos, negsuc, Bool, true, false, List, [], ◌∷◌, Option, Some, None}
use Rattle.sched.specs.declared.numbers.Extent.{Extent}
use Rattle.sched.specs.Skeleton.{SkeletonText, skeleton_seen}
use Rattle.sched.specs.declared.roots.Laid.{Laid}
use Rattle.sched.specs.Stored.{FormulaText, left_at}

-- so many symbols, from one of them on
abbrev pub symbols_from : ℕ → ℕ → List ℕ
symbols_from s zero = []
symbols_from s (suc n) = s ∷ symbols_from (s + 1) n

-- an index at this place is looked at: of a definition's own calls only where its left index is not the variable
abbrev pub counts : Option FormulaText → ℕ → Bool
counts None d = true
counts (Some f) d = elim (left_at f d) [ Some e ↦ true | None ↦ false ]

-- ---- regions

abbrev pub count_of : ℤ → ℕ
count_of (pos n) = n
count_of (negsuc n) = 0

-- a region within the limits, and the loops over it
pub record LaidText : Type 0 where
  pub region : List Extent
  pub skeleton : SkeletonText

abbrev pub laid_of : Laid → LaidText
laid_of l = record { region = l.region.items; skeleton = skeleton_seen l.skeleton }
