use Rattle.std.proofs.Common.{◌≡◌, map, vec_len}
use Rattle.plan.specs.Lists.{list_statements}
use Rattle.blocks.specs.Fetches.{fetch_seen, with_fetches}
use Rattle.blocks.proofs.whole.before_all.Given as goal

abbrev pub invariant-loop-fetch : goal.invariant-loop-fetch
invariant-loop-fetch l = with_fetches (map fetch_seen l.left.items) (list_statements l.statements.items) ≡ with_fetches (map fetch_seen l.fn.fetches.items) (list_statements l.fn.others.items)

abbrev pub decreases-loop-fetch : goal.decreases-loop-fetch
decreases-loop-fetch l = vec_len l.left
