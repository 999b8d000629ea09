use Rattle.std.proofs.Common.{ℕ, length, map, sym, ap, ◌∙◌, subst}
use Rattle.std.specs.Prelude.{Contains}
use Rattle.board.specs.CellBits.{bits_in}
use Rattle.board.specs.Layout.{own_of, pieces_of, value_at}
use Rattle.board.specs.Seats.{IsTicketOf, Place, seeing}
use Rattle.board.specs.Views.{completed}
use Rattle.checked_plan.specs.declared.output.plan_cells.PlanCells.{PlanCells}
use Rattle.piece.specs.declared.cells.LookedCells.{LookedCells}
use Rattle.crew.specs.Private.{needs_of, HasRoom, IsMostFetched}
use Rattle.crew.proofs.Staged.{bits_kept}
use Rattle.crew.proofs.worker.fill.Goals as goal

pub look_at-requires-clause-known : goal.look_at-requires-clause-known
look_at-requires-clause-known g c = λ k lt.
    let o = c.fetched.ensures.needed k lt in
    (o.0, c.requires.known o.0 (subst (λ (p : ℕ). Contains (needs_of (g.P.PrivateRuns.plan c.args.runs.now) p) o.0) c.piece-piece.ensures o.1), o.2)

pub complete-requires-clause-ticket : goal.complete-requires-clause-ticket
complete-requires-clause-ticket g c = subst (λ (s : Place). IsTicketOf g.J.Run.layout s.view c.args.ticket) (sym c.look_at.ensures.seat) c.requires.ticket

pub complete-requires-clause-bits : goal.complete-requires-clause-bits
complete-requires-clause-bits g c = bits_kept g.J.Run.layout g.J.Run.values (own_of g.J.Run.layout c.args.ticket.piece) (bits_in c.given.result) c.run.new.desk.scratch.state.given.items
    (c.run.ensures.values ∙ ap (λ (n : ℕ). map (value_at g.J.Run.values) (own_of g.J.Run.layout n)) c.piece-piece.ensures) c.given.ensures

pub returns-clause-seat : goal.returns-clause-seat
returns-clause-seat g c =
    let piece = c.args.ticket.piece in
    c.complete.ensures ∙ ap (λ (s : Place). seeing s (completed s.view piece (length (own_of g.J.Run.layout piece)))) c.look_at.ensures.seat

pub returns-clause-room : goal.returns-clause-room
returns-clause-room g c = subst (λ (l : LookedCells). HasRoom (g.P.PrivateRuns.plan c.args.runs.now) (pieces_of g.J.Run.layout) l) (sym c.run.ensures.looked) (record {
  plan = ap (λ (l : PlanCells). l.checked.now) c.look_at.ensures.same ∙ c.requires.room.plan;
  room = subst (λ (n : ℕ). IsMostFetched (g.P.PrivateRuns.plan c.args.runs.now) (pieces_of g.J.Run.layout) n) (sym c.look_at.ensures.room) c.requires.room.room;
})
