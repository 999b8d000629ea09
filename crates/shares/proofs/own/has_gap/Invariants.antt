use Rattle.std.proofs.Common.{◌≡◌, ℕ, ◌<◌, ◌≤◌, ◌+◌, None, Some}
use Rattle.std.specs.Prelude.{slice_get}
use Rattle.shares.proofs.own.has_gap.Given as goal

abbrev pub invariant-loop-place : goal.invariant-loop-place
invariant-loop-place l = (x : ℕ) → l.first ≤ x → x < l.first + l.place → ¬ (slice_get l.owners x ≡ Some None)
