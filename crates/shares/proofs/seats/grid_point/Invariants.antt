use Rattle.std.proofs.Common.{◌≡◌, ◌<◌, ◌≤◌, ◌++◌, drop}
use Rattle.std.specs.Prelude.{All}
use Rattle.plan.specs.Certificate.Cells.{grid_point, piece_count}
use Rattle.shares.proofs.seats.grid_point.Given as goal

abbrev pub invariant-loop-count : goal.invariant-loop-count
invariant-loop-count l = record {
  point : grid_point l.grid l.number ≡ l.at.items ++ grid_point (drop l.count-index l.grid) l.rest;
  below : l.rest < piece_count (drop l.count-index l.grid);
  small : All (λ x. x ≤ l.number) l.at.items;
  less : l.rest ≤ l.number;
}
