use Rattle.std.proofs.Common.{◌≤◌, ◌^◌, take}
use Rattle.std.specs.Prelude.{All, slice_index_or}
use Rattle.shares.proofs.blocks.least_at.Given as goal

abbrev pub invariant-loop-seat : goal.invariant-loop-seat
invariant-loop-seat l = record {
  least : All (λ x. l.found ≤ slice_index_or x.at.items l.place 0) (take l.seat-index l.seats);
  small : l.found ≤ 2 ^ 20;
}
