use Rattle.std.proofs.Common.{◌≡◌, length}
use Rattle.shares.specs.Blocks.{AreLows}
use Rattle.shares.specs.Boxes.{IsSmall}
use Rattle.shares.proofs.blocks.lows.Given as goal

abbrev pub invariant-loop-place : goal.invariant-loop-place
invariant-loop-place l = record {
  lows : AreLows l.seats l.low.items;
  small : IsSmall l.low.items;
  long : length l.low.items ≡ l.place;
}
