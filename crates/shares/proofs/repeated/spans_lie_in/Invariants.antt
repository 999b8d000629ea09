use Rattle.std.proofs.Common.{◌≡◌, length, take}
use Rattle.std.specs.List.{AllZip}
use Rattle.shares.specs.Repeated.{SpanLiesIn}
use Rattle.shares.proofs.repeated.spans_lie_in.Given as goal

abbrev pub invariant-loop-place : goal.invariant-loop-place
invariant-loop-place l = record {
  lie : AllZip SpanLiesIn (take l.place l.inner) (take l.place l.outer);
  long : length l.inner ≡ length l.outer;
}
