use Rattle.std.proofs.Common.{◌≡◌, map, take}
use Rattle.board.proofs.rows.Rows.of.Given as goal

abbrev pub invariant-loop-piece : goal.invariant-loop-piece
invariant-loop-piece g l = map (λ v. v.now) l.rows.items ≡ take l.piece (g.S.Source.layout l.source).own
