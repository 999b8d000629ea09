use Rattle.std.proofs.Common.{◌≡◌, ◌++◌}
use Rattle.shares.specs.Seats.{AreSmall, grid_pieces, pieces_of}
use Rattle.shares.proofs.seats.push_seats.Given as goal

abbrev pub invariant-loop-number : goal.invariant-loop-number
invariant-loop-number l = record {
  pieces : pieces_of l.seats.items ≡ pieces_of l.initial.seats.items ++ grid_pieces l.group l.grid l.number;
  small : AreSmall l.seats.items;
}
