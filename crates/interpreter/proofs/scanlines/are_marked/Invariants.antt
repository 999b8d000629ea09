use Rattle.std.proofs.Common.{◌≡◌, ◌<◌, ℕ, Some}
use Rattle.std.specs.Bool.{OnTrue}
use Rattle.std.specs.Prelude.{slice_get}
use Rattle.interpreter.proofs.scanlines.are_marked.Given as goal

abbrev pub invariant-loop-place : goal.invariant-loop-place
invariant-loop-place l = OnTrue l.all ((k : ℕ) → k < l.place → slice_get l.marks k ≡ Some l.mark)
