use Rattle.std.proofs.Common.{◌≡◌, ◌+◌, ℕ, List, length, take}
use Rattle.orders.specs.CellRuns.{cells_of}
use Rattle.shares.specs.Taken.{AreTaken, free_count}
use Rattle.shares.proofs.taken.TakenCells.take_cells.Given as goal

abbrev pub invariant-loop-run : goal.invariant-loop-run
invariant-loop-run l = record {
  taken : (own : ℕ → List ℕ) (n : ℕ) → own n ≡ l.cells → AreTaken own l.initial.self n 0 → AreTaken own l.self n (length (cells_of (take l.run-index l.run-items)));
  long : length l.self ≡ length l.initial.self;
  count : free_count l.self + length (cells_of (take l.run-index l.run-items)) ≡ free_count l.initial.self;
}
