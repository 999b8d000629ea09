use Rattle.std.proofs.Common.{◌≡◌, ◌∙◌, ◌<◌, ap, sym, subst, arith, Some, inl, inr}
use Rattle.std.specs.Prelude.{slice_get}
use Rattle.std.proofs.lemmas.Bool.{cases_lt}
use Rattle.plan.specs.Certificate.Cells.{Piece, grid_symbols}
use Rattle.shares.specs.declared.seats.Seat.{Seat}
use Rattle.shares.specs.Lets.{AreNear, namings_of}
use Rattle.shares.specs.Noted.{line_of}
use Rattle.shares.specs.Seats.{piece_of, pieces_of}
use Rattle.shares.proofs.Groups.{all_at_place, get_mapped, get_some, get_within, some_same}
use Rattle.shares.proofs.Near.{near_pieces}
use Rattle.shares.proofs.far.is_far.Goals as goal

pub returns-then-branch-clause-far : goal.returns-then-branch-clause-far
returns-then-branch-clause-far c _ near =
    let xs = c.args.seats.now in let k = c.loop-seat.seat-index in let s = c.seat-item.result in
    let x = line_of c.args.line.now in
    let far = c.in_ok-is_far_at.ensures.far c.if-branch.true in
    let at = get_mapped piece_of xs k s c.loop-seat-test.true ∙ ap (λ (y : Seat). Some (piece_of y)) (sym c.seat-item.is) in
    far.1 (all_at_place (λ (j : Piece). j.group ≡ x.group → AreNear x.lets (grid_symbols j.at)) (pieces_of xs) k (piece_of s) at near far.0)

pub loop-seat-preserved : goal.loop-seat-preserved
loop-seat-preserved c i s less at same =
    let xs = c.args.seats.now in let k = c.loop-seat.seat-index in let d = c.seat-item.result in
    let x = line_of c.args.line.now in
    elim (cases_lt i k) [
      | inl low ↦ c.loop-seat.invariant i s low at same
      | inr from ↦
          let here : i ≡ k = omega (arith, less, from) in
          let is : s ≡ d = some_same s d (sym at ∙ ap (slice_get xs) here ∙ get_some xs k d c.loop-seat-test.true ∙ ap (λ (y : Seat). Some y) (sym c.seat-item.is)) in
          subst (λ (y : Seat). y.group ≡ x.group → AreNear x.lets (grid_symbols y.at.items)) (sym is) (c.in_ok-is_far_at.ensures.near c.if-branch.false) same
    ]

pub returns-clause-near : goal.returns-clause-near
returns-clause-near c _ =
    let xs = c.args.seats.now in
    near_pieces (line_of c.args.line.now) xs (λ i s at. let within = get_within xs i s at in c.loop-seat.invariant i s (omega (arith, within, c.loop-seat-test.false)) at)
