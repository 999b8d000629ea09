use Rattle.std.proofs.Common.{◌≡◌, ◌++◌, map}
use Rattle.std.specs.List.{range_with_len}
use Rattle.plan.specs.View.{group_of}
use Rattle.shares.specs.Before.{whole}
use Rattle.shares.proofs.before.push_wholes.Given as goal

abbrev pub invariant-loop-number : goal.invariant-loop-number
invariant-loop-number l = l.owns.items ≡ l.initial.owns.items ++ map (whole (map group_of l.groups)) (range_with_len 0 l.number)
