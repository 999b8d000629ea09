-- What splits with `guard` tell of the numbers of loops, also where no guard has to stand for it, and what is needed of a function at a place by that.
-- What crates below need of it stands there: `regions`.
use Rattle.std.specs.Prelude.{if◌then◌else◌, List, length, map, Option, Some, None}
use Rattle.lin.specs.declared.scope.Binding.{Binding}
use Rattle.lin.specs.declared.span.Span1.{Span1}
use Rattle.meaning.specs.Algorithm.{Algorithm}
use Rattle.sched.specs.declared.numbers.Extent.{Extent}
use Rattle.sched.specs.Standing.{◌>>=◌}
use Rattle.sched.specs.declared.hosts.Spot.{Spot}
use Rattle.sched.specs.Stored.{StoredText}
use Rattle.sched.specs.Bounded.{whole}
use Rattle.sched.specs.Taken.{SiteText}
use Rattle.sched.specs.Fetches.{Entry}
use Rattle.sched.specs.Placed.{PlacedText}
use Rattle.regions.specs.Demanded.{needed_region, are_inside}
use Rattle.regions.specs.Guarded.{told_sites_at, with_told}

-- ---- what is needed

-- what these calls need by what guarded splits tell; None where that is not told either
abbrev pub told_region : Algorithm → Entry → List PlacedText → Spot → List Binding → StoredText → List Extent → Option (List Span1)
told_region a e is s scope g es = told_sites_at a g.subject.name (length scope) e is s >>= λ ts. needed_region scope ts g es

-- a region that is shown to lie in the function's stays; else what is told takes the place of those spans that are not shown to lie there, where it is shown to do so
abbrev pub kept : List Binding → List Span1 → List Span1 → Option (List Span1) → List Span1
kept scope ws q told = if are_inside scope q ws then q else with_told scope q told ws

abbrev pub kept_or_told : List Binding → List Span1 → Option (List Span1) → Option (List Span1) → Option (List Span1)
kept_or_told scope ws None told = told
kept_or_told scope ws (Some q) told = Some (kept scope ws q told)

-- the region that is needed of a function at a place, by these calls: where bounds tell nothing of them, what is told; None where that is nothing either
abbrev pub needed_at : Algorithm → Entry → List PlacedText → Spot → List Binding → List SiteText → StoredText → List Extent → Option (List Span1)
needed_at a e is s scope ss g es = kept_or_told scope (map whole es) (needed_region scope ss g es) (told_region a e is s scope g es)
