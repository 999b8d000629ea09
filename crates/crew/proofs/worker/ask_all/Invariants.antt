use Rattle.std.proofs.Common.{◌≡◌, ℕ, ◌<◌}
use Rattle.std.specs.Prelude.{⊤, slice_index, IsTrue, MatchBool}
use Rattle.board.specs.Seats.{IsTicketOf, Task}
use Rattle.board.specs.Views.{Knows}
use Rattle.crew.specs.Learning.{HasLearned, KnowsEach, WasUnfinished}
use Rattle.crew.proofs.worker.ask_all.Given as goal

abbrev pub invariant-loop-piece : goal.invariant-loop-piece
invariant-loop-piece g l = record {
  board : l.seat.board ≡ l.initial.seat.board;
  learned : HasLearned l.initial.seat.view l.seat.view;
  ticket : (t : Task) → IsTicketOf g.J.Run.layout l.initial.seat.view t → IsTicketOf g.J.Run.layout l.seat.view t;
  yes : IsTrue l.all → (k : ℕ) → k < l.piece-index → Knows l.seat.view (slice_index l.pieces k);
  no : MatchBool l.all ⊤ (WasUnfinished g.J.Run.layout g.J.Run.values l.initial.seat.view l.pieces);
  known : KnowsEach l.initial.seat.view l.pieces → IsTrue l.all;
}
