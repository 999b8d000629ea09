use Rattle.std.proofs.Common.{List, ap, sym, ◌∙◌, subst, Some, length}
use Rattle.lin.specs.declared.span.Span1.{Span1}
use Rattle.shares.specs.Shared.{IsLike}
use Rattle.plan.specs.Plan.{Group, Plan}
use Rattle.plan.specs.View.{plan_of, group_of}
use Rattle.plan.specs.declared.plan.Group.{Group as CodeGroup}
use Rattle.plan.specs.Certificate.Certificate.{Certificate, certificate_of}
use Rattle.plan.specs.Certificate.Cells.{no_symbols}
use Rattle.shares.specs.Boxes.{IsLimited, sides, grid_sides}
use Rattle.shares.specs.declared.grounds.Ground.{Ground}
use Rattle.shares.specs.Grounds.{IsGroundOf}
use Rattle.shares.proofs.Groups.{get_mapped, some_same}
use Rattle.shares.proofs.Known.{cells_space, pieces_space, own_given}
use Rattle.shares.proofs.grounds.ground_of.Goals as goal

pub box_at-requires-clause-limits : goal.box_at-requires-clause-limits
box_at-requires-clause-limits c =
    let d = c.index-group.result.now in
    let at = get_mapped group_of c.args.plan.now.groups.items c.args.number d c.requires.number ∙ ap (λ (x : CodeGroup). Some (group_of x)) (sym c.index-group.ensures) in
    subst IsLimited (sym c.as_slice.ensures) (c.requires.shared.groups c.args.number (group_of d) at).limits

pub returns : goal.returns
returns c g e =
    let d = c.index-group.result.now in
    let p : Plan = plan_of c.args.plan.now in
    let cert : Certificate = certificate_of c.args.cert.now in
    let n = c.args.number in
    let at = get_mapped group_of c.args.plan.now.groups.items n d c.requires.number ∙ ap (λ (x : CodeGroup). Some (group_of x)) (sym c.index-group.ensures) in
    let cells = c.in_ok-box_at.ensures.sides ∙ ap (sides no_symbols) c.as_slice.ensures in
    let grid = c.in_ok-grid_box.ensures ∙ ap grid_sides c.deref.ensures.value in
    let own = own_given p cert c.requires.shared n (group_of d) at in
    let same = c.own_spans.ensures own.0 own.1 in
    let x : Ground = record { cells = record { first = c.args.first_cell; sides = c.in_ok-box_at.field-0 }; pieces = record { first = c.args.first_piece; sides = c.in_ok-grid_box.field-0 }; own = c.own_spans.result } in
    subst (λ (h : Group). IsGroundOf p cert n h x) (some_same (group_of d) g (sym at ∙ e)) (record {
      first_cell = c.requires.cell;
      cell_sides = cells;
      cells = cells_space p cert c.requires.shared n (group_of d) at x.cells c.requires.cell cells c.in_ok-box_at.ensures.near;
      first_piece = c.requires.piece;
      piece_sides = grid;
      pieces = pieces_space p cert c.requires.shared n (group_of d) at x.pieces c.requires.piece grid;
      own = own.1 ∙ ap Some (sym same);
      own_like = subst (λ (xs : List Span1). IsLike xs (length d.region)) (sym same) own.2;
    })
