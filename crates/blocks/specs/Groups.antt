-- The groups of a plan: one for each stored root function, in the order of declaration, over its region, with a piece for each turn of
-- its parallel loops.
-- What crates below need of it stands there: `sched`.
use Rattle.std.specs.Prelude.{◌≡◌, ℕ, List, map, string_bytes}
use Rattle.plan.specs.declared.plan.Group.{Group}
use Rattle.sched.specs.declared.numbers.Extent.{Extent}
use Rattle.sched.specs.Numbers.{loop_numbers, piece_counts}
use Rattle.sched.specs.Stored.{StoredText}
use Rattle.sched.specs.Fetches.{Entry}
use Rattle.sched.specs.Bounded.{whole}

-- ---- a group

-- how many turns each of a function's parallel loops has over a region, the innermost first; one piece where no loop is parallel
abbrev pub grid_over : StoredText → List Extent → List ℕ
grid_over g region = piece_counts (loop_numbers g.subject.variables g.placed.cuts region) g.placed.loops

-- ---- over some regions

-- the group of a function over this region
pub record IsOver (e : Entry) (p : Group) : Type 0 where
  pub named : string_bytes p.function ≡ e.0.subject.name
  pub region : p.region ≡ map whole e.1.region
  pub grid : p.grid.items ≡ grid_over e.0 e.1.region
