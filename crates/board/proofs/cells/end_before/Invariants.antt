use Rattle.std.proofs.Common.{◌<◌, ℕ, take}
use Rattle.std.specs.Prelude.{Contains}
use Rattle.orders.specs.CellRuns.{cells_of}
use Rattle.board.proofs.cells.end_before.Given as goal

abbrev pub invariant-loop-run : goal.invariant-loop-run
invariant-loop-run l = (c : ℕ) → Contains (cells_of (take l.run-index l.run-items)) c → c < l.end
