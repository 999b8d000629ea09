use Rattle.std.proofs.Common.{◌≡◌, ◌<◌, ℕ, length, take}
use Rattle.std.specs.Prelude.{slice_index}
use Rattle.orders.specs.CellRuns.{cells_of}
use Rattle.board.specs.Seen.{HasSample, StaysShown}
use Rattle.board.proofs.showing.show_in.Given as goal

abbrev pub invariant-loop-run : goal.invariant-loop-run
invariant-loop-run g l = record {
  given : l.given ≡ length (cells_of (take l.run-index l.run-items));
  long : length l.part ≡ length l.initial.part;
  shown : (m : ℕ) → m < l.given → HasSample l.planes l.before g.J.Run.values l.from l.part (slice_index l.cells m);
  kept : StaysShown l.planes l.before g.J.Run.values l.from l.initial.part l.part;
}
