use Rattle.std.proofs.Common.{◌≡◌, ◌∙◌, ◌-◌, ◌≤◌, ◌^◌, List, ap, arith, min, sym, subst}
use Rattle.std.specs.Prelude.{All}
use Rattle.std.specs.List.{range_with_len}
use Rattle.plan.specs.Certificate.Cells.{grid_symbols}
use Rattle.shares.specs.declared.boxes.Side.{Side}
use Rattle.shares.specs.Boxes.{point_count, sides}
use Rattle.shares.specs.Walked.{IsExtent, shared_cells}
use Rattle.shares.proofs.Empty.{counts_some}
use Rattle.shares.proofs.Rowed.{row_numbers, row_whole}
use Rattle.shares.proofs.straight.row_in.Goals as goal

pub row_from-requires-clause-extents : goal.row_from-requires-clause-extents
row_from-requires-clause-extents c =
    let x = c.args.space.now in
    let same = c.most_points.ensures ∙ ap (λ (xs : List Side). min (point_count xs) (2 ^ 64 - 1)) c.deref.ensures.value in
    subst (All IsExtent) (sym c.deref-2.ensures.value) (c.requires.space.sides (counts_some x.sides.items (λ none. c.if-most_points-eq0.false (omega (arith, same, none)))))

pub row_from-requires-clause-some : goal.row_from-requires-clause-some
row_from-requires-clause-some c =
    let x = c.args.space.now in
    let same = c.most_points.ensures ∙ ap (λ (xs : List Side). min (point_count xs) (2 ^ 64 - 1)) c.deref.ensures.value in
    subst (All (λ (s : Side). 1 ≤ s.count)) (sym c.deref-2.ensures.value) (counts_some x.sides.items (λ none. c.if-most_points-eq0.false (omega (arith, same, none))))

pub returns-clause-numbers : goal.returns-clause-numbers
returns-clause-numbers c =
    let s = grid_symbols c.args.at.now in
    let region = c.args.region.now in
    let r = c.in_ok-row.row in
    let cells = subst (λ (ys : List Side). shared_cells (sides s region) ys ≡ range_with_len r.first r.count) c.deref-2.ensures.value c.in_ok-row.ensures.cells in
    row_numbers c.args.space.now s region r.first r.count c.requires.dimensions cells c.in_ok-row.ensures.count

pub returns-clause-whole : goal.returns-clause-whole
returns-clause-whole c =
    let s = grid_symbols c.args.at.now in
    let region = c.args.region.now in
    let r = c.in_ok-row.row in
    let cells = subst (λ (ys : List Side). shared_cells (sides s region) ys ≡ range_with_len r.first r.count) c.deref-2.ensures.value c.in_ok-row.ensures.cells in
    row_whole c.args.space.now s region r.first r.count c.requires.dimensions cells c.in_ok-row.ensures.count
