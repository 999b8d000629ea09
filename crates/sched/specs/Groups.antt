-- The groups of a plan: one for each stored root function, in the order of declaration, over its region, with a piece for each turn of
-- its parallel loops.
use Rattle.std.specs.Prelude.{map}
use Rattle.sched.specs.declared.roots.Root.{Root}
use Rattle.sched.specs.Stored.{formula_of, stored_of}
use Rattle.sched.specs.Regions.{laid_of}
use Rattle.sched.specs.Fetches.{Entry}

-- ---- while they are made

-- as memory keeps a stored function that has definitions and a region
abbrev pub root_of : Root → Entry
root_of r = (stored_of r.stored.now, laid_of r.laid.now, map formula_of r.formulas.now)
