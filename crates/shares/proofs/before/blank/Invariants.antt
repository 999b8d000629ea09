use Rattle.std.proofs.Common.{◌≡◌}
use Rattle.shares.specs.Shared.{IsLike}
use Rattle.shares.proofs.before.blank.Given as goal

abbrev pub invariant-loop : goal.invariant-loop
invariant-loop l = IsLike l.made l.counter
