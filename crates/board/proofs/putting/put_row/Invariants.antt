use Rattle.std.proofs.Common.{◌≡◌, ◌≤◌, ◌-◌, ℕ, length}
use Rattle.board.specs.Kept.{all_bits}
use Rattle.board.specs.Sheets.{HasBits, HasRow}
use Rattle.board.proofs.putting.put_row.Given as goal

abbrev pub invariant-loop-done : goal.invariant-loop-done
invariant-loop-done g l = record {
  inside : l.done ≤ l.count;
  bits : length l.bits_now ≡ length l.initial.bits_now;
  samples : length l.samples ≡ length l.initial.samples;
  put : HasRow g.J.Run.values (all_bits l.planes l.bits_now l.samples) l.first l.done;
  kept : (c : ℕ) → HasBits g.J.Run.values (all_bits l.planes l.initial.bits_now l.initial.samples) c → HasBits g.J.Run.values (all_bits l.planes l.bits_now l.samples) c;
}

abbrev pub decreases-loop-done : goal.decreases-loop-done
decreases-loop-done g l = l.count - l.done
