use Rattle.std.proofs.Common.{ℕ, List, subst, sym}
use Rattle.board.specs.CellBits.{bits_in}
use Rattle.board.specs.Sheets.{IsPut}
use Rattle.board.specs.Layout.{own_of}
use Rattle.crew.proofs.Staged.{bits_kept}
use Rattle.crew.proofs.alone.fill.Goals as goal

pub compute-requires-clause-needed : goal.compute-requires-clause-needed
compute-requires-clause-needed g c j there =
    let needed = c.requires.needed j there in
    (needed.0, subst (λ (bs : List ℕ). IsPut g.J.Run.layout g.J.Run.values bs j) (sym c.cells-seen.ensures) needed.1)

pub put-requires-clause-kept : goal.put-requires-clause-kept
put-requires-clause-kept g c =
    bits_kept g.J.Run.layout g.J.Run.values (own_of g.J.Run.layout c.args.piece) (bits_in c.given.result) c.compute.new.desk.scratch.state.given.items c.compute.ensures.values c.given.ensures
