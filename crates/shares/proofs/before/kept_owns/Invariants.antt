use Rattle.std.proofs.Common.{◌≡◌, take}
use Rattle.shares.proofs.before.kept_owns.Given as goal

abbrev pub invariant-loop-own : goal.invariant-loop-own
invariant-loop-own l = l.made.items ≡ take l.own-index l.all
