use Rattle.std.proofs.Common.{◌≡◌, ◌-◌, ◌^◌, ◌∙◌, ℕ, List, ap, min, subst, sym}
use Rattle.std.specs.Prelude.{◌==◌, IfOk}
use Rattle.std.proofs.lemmas.List.Elements.{All-filter}
use Rattle.shares.specs.declared.seats.Seat.{Seat}
use Rattle.shares.specs.Boxes.{IsSmall}
use Rattle.shares.specs.FetchLines.{LineIsNear, fetched_by}
use Rattle.shares.specs.Noted.{line_of}
use Rattle.shares.specs.Seats.{AreSmall, pieces_of}
use Rattle.shares.proofs.Passing.{fetched_in_group, near_in_group}
use Rattle.shares.proofs.counts.cells_of_group.Goals as goal

pub cells_by-requires-clause-small : goal.cells_by-requires-clause-small
cells_by-requires-clause-small c =
    let group = c.args.line.now.group in
    subst AreSmall (sym c.seats_of_group-these.ensures) (All-filter (λ (s : Seat). s.group == group) (λ (s : Seat). IsSmall s.at.items) c.args.seats.now c.requires.small)

pub cells_by-requires-clause-near : goal.cells_by-requires-clause-near
cells_by-requires-clause-near c =
    let x = line_of c.args.line.now in
    subst (λ (ys : List Seat). LineIsNear (pieces_of ys) x) (sym c.seats_of_group-these.ensures) (near_in_group x c.args.seats.now c.requires.near)

pub returns : goal.returns
returns c =
    let x = line_of c.args.line.now in
    let same = ap (λ (ys : List Seat). fetched_by (pieces_of ys) x) c.seats_of_group-these.ensures ∙ fetched_in_group x c.args.seats.now in
    subst (λ (n : ℕ). IfOk c.cells_by.result (λ count. count ≡ min n (2 ^ 64 - 1))) same c.cells_by.ensures
