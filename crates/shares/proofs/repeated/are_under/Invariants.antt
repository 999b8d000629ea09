use Rattle.std.proofs.Common.{◌≡◌, length, take}
use Rattle.std.specs.List.{AllZip}
use Rattle.shares.specs.Repeated.{IsUnder}
use Rattle.shares.proofs.repeated.are_under.Given as goal

abbrev pub invariant-loop-place : goal.invariant-loop-place
invariant-loop-place l = record {
  under : AllZip IsUnder (take l.place l.low) (take l.place l.high);
  long : length l.low ≡ length l.high;
}
