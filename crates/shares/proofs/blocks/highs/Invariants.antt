use Rattle.std.proofs.Common.{◌≡◌, length}
use Rattle.shares.specs.Blocks.{AreHighs}
use Rattle.shares.specs.Boxes.{IsSmall}
use Rattle.shares.proofs.blocks.highs.Given as goal

abbrev pub invariant-loop-place : goal.invariant-loop-place
invariant-loop-place l = record {
  highs : AreHighs l.seats l.high.items;
  small : IsSmall l.high.items;
  long : length l.high.items ≡ l.place;
}
