use Rattle.std.proofs.Common.{◌≡◌, drop}
use Rattle.std.specs.Prelude.{map, fold}
use Rattle.lin.specs.Forms.{combined}
use Rattle.bounds.specs.Lists.{with_made}
use Rattle.bounds.proofs.lists.with_sums.Given as goal

abbrev pub invariant-loop-second : goal.invariant-loop-second
invariant-loop-second l =
    fold with_made l.fn.known (map (λ b. combined l.first l.factor b) l.seconds) ≡ fold with_made l.sums (map (λ b. combined l.first l.factor b) (drop l.second-index l.seconds))
