use Rattle.std.proofs.Common.{◌≤◌, ◌^◌, take}
use Rattle.std.specs.Prelude.{All, slice_index_or}
use Rattle.shares.proofs.blocks.greatest_at.Given as goal

abbrev pub invariant-loop-seat : goal.invariant-loop-seat
invariant-loop-seat l = record {
  greatest : All (λ x. slice_index_or x.at.items l.place 0 ≤ l.found) (take l.seat-index l.seats);
  small : l.found ≤ 2 ^ 20;
}
