use Rattle.std.proofs.Common.{◌≡◌, map}
use Rattle.std.specs.List.{range_with_len}
use Rattle.board.specs.Layout.{shown_cell}
use Rattle.board.proofs.rows.shown_cells.Given as goal

abbrev pub invariant-loop-place : goal.invariant-loop-place
invariant-loop-place g l = l.cells.items ≡ map (λ n. shown_cell (g.S.Source.layout l.source) n) (range_with_len 0 l.place)
