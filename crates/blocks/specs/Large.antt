-- Which rule is told of which stored function, as far as it goes by the sizes of its definitions.
use Rattle.std.specs.Prelude.{Option, Some, None}
use Rattle.sched.specs.declared.region_rule.RegionRule.{RegionRule}
use Rattle.sched.specs.declared.region_rule.RegionRule.TheVariants as rule

-- a rule that asks for a region
abbrev pub IsByRegion : Option RegionRule → Type 0
IsByRegion None = Unit {0}
IsByRegion (Some rule.OutsideUse) = ⊥
IsByRegion (Some rule.TooLarge) = ⊥
IsByRegion (Some rule.ShortShift) = Unit {0}
IsByRegion (Some rule.SmallFold) = Unit {0}
IsByRegion (Some rule.TooMuch) = Unit {0}
IsByRegion (Some rule.Unbounded) = Unit {0}
