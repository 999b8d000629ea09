use Rattle.std.proofs.Common.{◌≡◌, ℕ, List, length, take}
use Rattle.std.specs.List.{AllZip}
use Rattle.plan.specs.Certificate.Cells.{grid_symbols}
use Rattle.shares.specs.Corners.{IsBetween}
use Rattle.shares.specs.Outer.{SpanLiesAt}
use Rattle.shares.proofs.outer.spans_lie_in.Given as goal

abbrev pub invariant-loop-place : goal.invariant-loop-place
invariant-loop-place l = record {
  lie : (at : List ℕ) → IsBetween l.low l.high at → AllZip (SpanLiesAt (grid_symbols at)) (take l.place l.inner) (take l.place l.outer);
  long : length l.inner ≡ length l.outer;
}
