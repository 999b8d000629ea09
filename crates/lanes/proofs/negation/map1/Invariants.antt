use Rattle.std.proofs.Common.{◌≡◌, ℕ, ◌<◌}
use Rattle.std.specs.Prelude.{slice_index_or}
use Rattle.lanes.proofs.negation.map1.Given as goal

abbrev pub invariant-loop-i : goal.invariant-loop-i
invariant-loop-i g l =
    (k : ℕ) (d : _) → k < l.i → g.T.Negated.value (slice_index_or l.out k d) ≡ g.T.Negated.negated (g.T.Negated.value (slice_index_or l.a k d))
