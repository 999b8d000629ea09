use Rattle.std.proofs.Common.{◌≡◌, ◌+◌, ◌<◌, ◌∙◌, ℕ, ℤ, List, [], length, get_or, rules, arith, sym, ap, subst}
use Rattle.std.specs.Prelude.{slice_index_or}
use Rattle.board.specs.Layout.{Layout, pieces_of, own_cell, own_of, value_at}
use Rattle.board.specs.Words.{cell_place, bits_of}
use Rattle.board.specs.Seats.{Place, Task, IsTicketOf}
use Rattle.board.proofs.Parts.{parted}
use Rattle.board.proofs.Keeps.{puts_at}
use Rattle.board.proofs.board.Board.put.Goals as goal

pub store-requires : goal.store-requires
store-requires g c =
    let seat = c.seat.invariant in
    let board = c.self.invariant in
    let plan : Layout = g.J.Run.layout in
    let values : List ℤ = g.J.Run.values in
    let at_work = subst (λ (x : Place × Task). IsTicketOf plan x.0.view x.1) (λ i. (sym c.seat.view_is i, sym c.ticket.view_is i)) c.requires.ticket in
    let left = subst (λ (t : Task). t.puts < length (own_of plan t.piece)) (sym c.ticket.view_is) c.requires.left in
    let right = subst (λ (t : Task). c.args.bits ≡ bits_of (value_at values (own_cell plan t.piece t.puts))) (sym c.ticket.view_is) c.requires.bits in
    let own : c.cell-cell.result ≡ own_cell plan c.ticket.inside.piece c.ticket.inside.puts =
    c.cell-cell.ensures ∙ ap (λ (xs : List ℕ). get_or xs c.ticket.inside.puts 0) (c.get-own.ensures ∙ ap (λ (l : List (List ℕ)). slice_index_or l c.ticket.inside.piece []) board.0) in
    let pieces : c.len-2.result ≡ pieces_of plan = c.len-2.ensures ∙ ap length board.0 in
    let here : 1 + c.len-2.result + c.cell-cell.result ≡ cell_place plan (own_cell plan c.ticket.inside.piece c.ticket.inside.puts) = λ i. 1 + pieces i + own i in
    let below : own_cell plan c.ticket.inside.piece c.ticket.inside.puts < plan.cells = (parted plan board.1).in_range c.ticket.inside.piece c.ticket.inside.puts left in
    let wide = board.2 in
    (search rules, omega arith, puts_at _ _ _ _ c.seat.inside.seat.me _ c.ticket.inside.piece c.ticket.inside.puts _ (parted plan board.1) here seat.1 at_work.1 left (ap (λ n. 1 + n) (c.from-word.ensures ∙ right)))

pub overflow_add-ticket : goal.overflow_add-ticket
overflow_add-ticket g c =
    let plan : Layout = g.J.Run.layout in
    let board = c.self.invariant in
    let left = subst (λ (t : Task). t.puts < length (own_of plan t.piece)) (sym c.ticket.view_is) c.requires.left in
    let long = ap length (c.get-own.ensures ∙ ap (λ (l : List (List ℕ)). slice_index_or l c.ticket.inside.piece []) board.0) in
    omega (arith, left, long, c.len.ensures.few, c.len.ensures.count)
