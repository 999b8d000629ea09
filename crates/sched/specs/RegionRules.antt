-- The rules of schedules that ask what a function's loops run over.
use Rattle.std.specs.Prelude.{ℕ}
use Rattle.sched.specs.declared.region_rule.RegionRule.{RegionRule}
use Rattle.sched.specs.declared.region_rule.RegionRule.TheVariants as rule

-- the number of a rule's code
abbrev pub region_number : RegionRule → ℕ
region_number rule.OutsideUse = 6
region_number rule.ShortShift = 8
region_number rule.SmallFold = 9
region_number rule.TooLarge = 11
region_number rule.TooMuch = 11
region_number rule.Unbounded = 12
