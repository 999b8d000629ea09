use Rattle.std.proofs.Common.{ℕ, ◌<◌}
use Rattle.board.specs.Sheets.{IsPut}
use Rattle.crew.specs.Crews.{IsDeskFor}
use Rattle.crew.proofs.alone.fill_all.Given as goal

abbrev pub invariant-loop-piece : goal.invariant-loop-piece
invariant-loop-piece g l = record {
  before : (j : ℕ) → j < l.piece → IsPut g.J.Run.layout g.J.Run.values l.sheet j;
  desk : IsDeskFor g.J.Run.layout l.pieces l.desk;
}
