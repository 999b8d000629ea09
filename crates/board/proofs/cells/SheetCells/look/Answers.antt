use Rattle.std.proofs.Common.{◌<◌, ◌∙◌, get_or, arith, ap}
use Rattle.board.specs.Layout.{Layout}
use Rattle.board.specs.Seen.{seen_bits, Seen}
use Rattle.board.proofs.cells.SheetCells.look.Goals as goal

pub bits_of_cell-requires-clause-inside : goal.bits_of_cell-requires-clause-inside
bits_of_cell-requires-clause-inside g c =
    let plan : Layout = g.J.Run.layout in
    let known = c.requires in
    let below : c.args.cell < plan.cells = c.self.invariant.1.parted.0 known.0 c.args.cell known.1 known.3 in
    omega (arith, below, c.self.invariant.2)

pub bits_of_cell-requires-clause-few : goal.bits_of_cell-requires-clause-few
bits_of_cell-requires-clause-few g c = let most = c.self.invariant.1.few_cells in omega (arith, most, c.self.invariant.2)

pub returns : goal.returns
returns g c =
    let known = c.requires in
    c.bits_of_cell.ensures ∙ ap (λ (s : Seen). get_or (seen_bits s) c.args.cell 0) c.self.view_is ∙ known.2 c.args.cell known.3
