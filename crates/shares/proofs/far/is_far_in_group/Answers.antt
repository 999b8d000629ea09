use Rattle.std.proofs.Common.{List, subst, sym}
use Rattle.std.specs.Prelude.{◌==◌}
use Rattle.std.proofs.lemmas.List.Elements.{All-filter}
use Rattle.shares.specs.declared.seats.Seat.{Seat}
use Rattle.shares.specs.Boxes.{IsSmall}
use Rattle.shares.specs.FetchLines.{LineIsNear}
use Rattle.shares.specs.Noted.{line_of}
use Rattle.shares.specs.Seats.{AreSmall, pieces_of}
use Rattle.shares.proofs.Passing.{near_in_group, near_of_group}
use Rattle.shares.proofs.far.is_far_in_group.Goals as goal

pub is_far-requires-clause-small : goal.is_far-requires-clause-small
is_far-requires-clause-small c =
    let group = c.args.line.now.group in
    subst AreSmall (sym c.seats_of_group-these.ensures) (All-filter (λ (s : Seat). s.group == group) (λ (s : Seat). IsSmall s.at.items) c.args.seats.now c.requires.small)

pub returns-clause-near : goal.returns-clause-near
returns-clause-near c none =
    let x = line_of c.args.line.now in
    near_of_group x c.args.seats.now (subst (λ (ys : List Seat). LineIsNear (pieces_of ys) x) c.seats_of_group-these.ensures (c.in_ok-far.ensures.near none))

pub returns-clause-far : goal.returns-clause-far
returns-clause-far c some near =
    let x = line_of c.args.line.now in
    c.in_ok-far.ensures.far some (subst (λ (ys : List Seat). LineIsNear (pieces_of ys) x) (sym c.seats_of_group-these.ensures) (near_in_group x c.args.seats.now near))
