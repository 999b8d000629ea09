use Rattle.std.proofs.Common.{◌≡◌, ◌<◌, ℕ, length, take}
use Rattle.std.specs.Prelude.{slice_index}
use Rattle.orders.specs.CellRuns.{cells_of}
use Rattle.board.specs.Kept.{all_bits}
use Rattle.board.specs.Sheets.{HasBits}
use Rattle.board.proofs.putting.put_runs.Given as goal

abbrev pub invariant-loop-run : goal.invariant-loop-run
invariant-loop-run g l = record {
  from : l.from ≡ length (cells_of (take l.run-index l.run-items));
  bits : length l.bits_now ≡ length l.initial.bits_now;
  samples : length l.samples ≡ length l.initial.samples;
  put : (m : ℕ) → m < l.from → HasBits g.J.Run.values (all_bits l.planes l.bits_now l.samples) (slice_index l.cells m);
  kept : (c : ℕ) → HasBits g.J.Run.values (all_bits l.planes l.initial.bits_now l.initial.samples) c → HasBits g.J.Run.values (all_bits l.planes l.bits_now l.samples) c;
}
