use Rattle.std.proofs.Common.{◌≡◌, drop}
use Rattle.std.specs.Prelude.{fold}
use Rattle.bounds.specs.Lists.{with_made, kept, all_combined}
use Rattle.bounds.proofs.lists.sums.Given as goal

abbrev pub invariant-loop-first : goal.invariant-loop-first
invariant-loop-first l = kept (all_combined l.firsts l.factor l.seconds) ≡ fold with_made l.sums (all_combined (drop l.first-index l.firsts) l.factor l.seconds)
