use Rattle.std.proofs.Common.{◌≡◌, ◌+◌, ◌<◌, ◌∙◌, length, rules, arith, sym, ap, subst}
use Rattle.board.specs.Layout.{value_at}
use Rattle.board.specs.Words.{cell_place}
use Rattle.board.specs.Seats.{Place, IsKnownCell}
use Rattle.board.proofs.Keeps.{looks_at, known_cell_in_range}
use Rattle.board.proofs.Parts.{parted}
use Rattle.board.proofs.Samples.{bits_below}
use Rattle.board.proofs.board.Board.look.Goals as goal

pub load-found-requires : goal.load-found-requires
load-found-requires g c =
    let seat = c.seat.invariant in
    let board = c.self.invariant in
    let here : 1 + c.len.result + c.args.cell ≡ cell_place g.J.Run.layout c.args.cell = ap (λ n. 1 + n + c.args.cell) (c.len.ensures ∙ ap length board.0) in
    let known = subst (λ (p : Place). IsKnownCell g.J.Run.layout p.view c.args.cell) (sym c.seat.view_is) c.requires.cell in
    let below : c.args.cell < g.J.Run.layout.cells = known_cell_in_range _ g.J.Run.values c.args.seat.now.view _ (parted _ board.1) c.requires.cell in
    let wide = board.2 in
    (search rules, omega arith, looks_at _ _ _ _ c.seat.inside.seat.me _ c.args.cell here seat.1 known)

-- the word that was found is the cell's
pub overflow_sub-result : goal.overflow_sub-result
overflow_sub-result g c =
    let here : 1 + c.len.result + c.args.cell ≡ cell_place g.J.Run.layout c.args.cell = ap (λ n. 1 + n + c.args.cell) (c.len.ensures ∙ ap length c.self.invariant.0) in
    let found = c.load-found.ensures.2.1 c.args.cell here in omega arith

pub overflow_cast-result : goal.overflow_cast-result
overflow_cast-result g c =
    let here : 1 + c.len.result + c.args.cell ≡ cell_place g.J.Run.layout c.args.cell = ap (λ n. 1 + n + c.args.cell) (c.len.ensures ∙ ap length c.self.invariant.0) in
    let found = c.load-found.ensures.2.1 c.args.cell here in
    let small = bits_below (value_at g.J.Run.values c.args.cell) in omega arith
