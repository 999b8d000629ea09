use Rattle.std.proofs.Common.{◌≡◌, ◌∙◌, ◌-◌, ◌<◌, ◌^◌, ℕ, List, length, min, ap, sym, subst, take, Some}
use Rattle.std.specs.Prelude.{slice_get}
use Rattle.plan.specs.Certificate.Cells.{Piece, grid_symbols}
use Rattle.shares.specs.declared.seats.Seat.{Seat}
use Rattle.shares.specs.Boxes.{sides}
use Rattle.shares.specs.FetchLines.{fetched_by}
use Rattle.shares.specs.Lets.{AreNear, named}
use Rattle.shares.specs.Noted.{line_of}
use Rattle.shares.specs.Seats.{piece_of, pieces_of}
use Rattle.shares.proofs.Groups.{all_at_place, get_mapped}
use Rattle.shares.proofs.Passing.{seats_more, adds_box, adds_none}
use Rattle.shares.proofs.counts.cells_by.Goals as goal
use Rattle.shares.proofs.counts.cells_by.Goals.{then-seat-line+in_ok-sides, else-seat-line}

pub box_of-requires-clause-near : goal.box_of-requires-clause-near
box_of-requires-clause-near c =
    let x = line_of c.args.line.now in
    let xs = c.args.seats.now in
    let k = c.loop-seat.seat-index in
    let s = c.seat-item.result in
    let at : slice_get (pieces_of xs) k ≡ Some (piece_of s) = get_mapped piece_of xs k s c.loop-seat-test.true ∙ ap (λ (y : Seat). Some (piece_of y)) (sym c.seat-item.is) in
    subst (λ (ys : List ℕ). AreNear x.lets (grid_symbols ys)) (sym c.deref.ensures.value)
    (all_at_place (λ (j : Piece). j.group ≡ x.group → AreNear x.lets (grid_symbols j.at)) (pieces_of xs) k (piece_of s) at c.requires.near c.if-seat-line.true)

pub loop-seat-preserved : goal.loop-seat-preserved
loop-seat-preserved c =
    let x = line_of c.args.line.now in
    let xs = c.args.seats.now in
    let k = c.loop-seat.seat-index in
    let s = c.seat-item.result in
    let less : k < length xs = c.loop-seat-test.true in
    let count = fetched_by (pieces_of (take k xs)) x in
    let more = seats_more x xs k s less c.seat-item.is in
    let Is : ℕ → Type 0 = λ n. c.if-seat-line.count ≡ min n (2 ^ 64 - 1) in
    elim c.if-seat-line.branch [
      | then-seat-line+in_ok-sides w ↦ subst Is (sym more)
          (adds_box x s w.deref-then-seat-line.result.now c.loop-seat.count count w.most_points.result c.if-seat-line.count w.if-seat-line.true
          (w.deref-then-seat-line.ensures.value ∙ w.in_ok-sides.ensures ∙ ap (λ (at : List ℕ). sides (named x.lets (grid_symbols at)) x.region) w.deref.ensures.value)
          w.most_points.ensures c.loop-seat.invariant (w.count-is ∙ w.saturating_add-count.ensures))
      | else-seat-line w ↦ subst Is (sym (more ∙ adds_none x s count w.if-seat-line.false)) (w.count-is ∙ c.loop-seat.invariant)
    ]
