use Rattle.std.proofs.Common.{◌≡◌, ◌+◌, ◌<◌, ◌≤◌, ◌++◌, ℕ, length}
use Rattle.std.specs.Prelude.{slice_index, vec_capacity}
use Rattle.board.specs.Seen.{seen_bits}
use Rattle.board.specs.Sheets.{IsPutCell}
use Rattle.crew.specs.Private.{words_at}
use Rattle.crew.proofs.alone.look_at.Given as goal

abbrev pub invariant-loop-rest : goal.invariant-loop-rest
invariant-loop-rest g l = record {
  cells : l.looked.cells.now ≡ l.initial.looked.cells.now;
  piece : l.looked.piece ≡ l.initial.looked.piece;
  words : l.looked.looked.items ++ words_at g.J.Run.values l.rest ≡ words_at g.J.Run.values l.initial.rest;
  left : length l.looked.looked.items + length l.rest ≤ vec_capacity l.looked.looked;
  room : vec_capacity l.looked.looked ≡ vec_capacity l.initial.looked.looked;
  put : (k : ℕ) → k < length l.rest → IsPutCell g.J.Run.layout g.J.Run.values (seen_bits l.seen) (slice_index l.rest k);
}

abbrev pub decreases-loop-rest : goal.decreases-loop-rest
decreases-loop-rest g l = length l.rest
