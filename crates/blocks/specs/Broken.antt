-- Which rule a function breaks that is computed inside loops: over what its turns need of it, wherever it stands.
use Rattle.std.specs.Prelude.{if◌then◌else◌, Option}
use Rattle.blocks.specs.declared.legality.Totals.{Totals}
use Rattle.blocks.specs.Faults.{totals_with}
use Rattle.sched.specs.Regions.{LaidText}
use Rattle.sched.specs.Stored.{StoredText}

-- root functions alone count
abbrev pub totals_of : Totals → StoredText → Option LaidText → Totals
totals_of t g l = if g.subject.is_root then totals_with t g l else t
