use Rattle.std.proofs.Common.{◌<◌, ◌∙◌, rules, arith, refl, sym, ap, subst, length}
use Rattle.board.specs.Layout.{Layout, pieces_of, own_of}
use Rattle.board.specs.Views.{IsWorking, knowing}
use Rattle.board.specs.Seats.{Place, Task, seeing}
use Rattle.board.proofs.Keeps.{finishes}
use Rattle.board.proofs.Told.{sees, fits_knowing}
use Rattle.board.proofs.board.Board.finish.Goals as goal

pub store-requires : goal.store-requires
store-requires g c =
    let seat = c.seat.invariant in
    let plan : Layout = g.J.Run.layout in
    let whole : (c.args.ticket.piece < pieces_of plan) × IsWorking c.args.seat.now.view c.args.ticket.piece (length (own_of plan c.args.ticket.piece)) =
    subst (λ n. (c.args.ticket.piece < pieces_of plan) × IsWorking c.args.seat.now.view c.args.ticket.piece n) c.requires.all_put c.requires.ticket in
    let at_work = subst (λ (x : Place × Task). (x.1.piece < pieces_of plan) × IsWorking x.0.view x.1.piece (length (own_of plan x.1.piece))) (λ i. (sym c.seat.view_is i, sym c.ticket.view_is i)) whole in
    let below = at_work.0 in
    let wide = c.self.invariant.2 in
    (search rules, omega arith, finishes _ _ _ _ c.seat.inside.seat.me c.ticket.inside.piece seat.1 at_work.1)

pub invariant_of-seat : goal.invariant_of-seat
invariant_of-seat g c = fits_knowing c.seat.inside.seat.me c.store.new.seat.me c.ticket.inside.piece _ _ (c.store.ensures.2 c.ticket.inside.piece refl) c.seat.invariant

pub returns : goal.returns
returns g c =
    sees (λ v. knowing v c.ticket.inside.piece) _ _ c.args.seat.now c.seat.inside.seat.me c.store.new.seat.me c.store.ensures.0 c.seat.view_is (c.store.ensures.2 c.ticket.inside.piece refl)
    ∙ ap (λ (t : Task). seeing c.args.seat.now (knowing c.args.seat.now.view t.piece)) c.ticket.view_is
