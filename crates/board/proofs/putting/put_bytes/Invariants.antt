use Rattle.std.proofs.Common.{ℕ}
use Rattle.board.specs.Kept.{all_bits}
use Rattle.board.specs.Sheets.{HasBits, HasRow}
use Rattle.board.proofs.putting.put_bytes.Given as goal

abbrev pub invariant-loop-more : goal.invariant-loop-more
invariant-loop-more g l = record {
  put : HasRow g.J.Run.values (all_bits l.fn.planes l.bits_now l.samples) l.first l.more;
  kept : (c : ℕ) → HasBits g.J.Run.values (all_bits l.fn.planes l.initial.bits_now l.samples) c → HasBits g.J.Run.values (all_bits l.fn.planes l.bits_now l.samples) c;
}
