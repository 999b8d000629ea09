use Rattle.std.proofs.Common.{◌≡◌, ◌-◌, length, take}
use Rattle.std.specs.Option.{option_map}
use Rattle.plan.specs.Lists.{list_statements}
use Rattle.tails.specs.View.{past_all, spine_held}
use Rattle.tails.proofs.descent.past_all.Given as goal

abbrev pub invariant-loop-k : goal.invariant-loop-k
invariant-loop-k l = past_all (list_statements (take (length l.before - l.k) l.before)) (option_map spine_held l.way) ≡ past_all (list_statements l.before) (option_map spine_held l.fn.found)
