use Rattle.std.proofs.Common.{ℕ, List, ◌++◌, ◌+◌, ◌≡◌, ap, sym, ◌∙◌, Some, arith, take}
use Rattle.std.specs.Prelude.{map}
use Rattle.std.specs.List.{range_with_len}
use Rattle.plan.specs.Plan.{Plan}
use Rattle.plan.specs.View.{plan_of, group_of}
use Rattle.plan.specs.declared.plan.Group.{Group as CodeGroup}
use Rattle.plan.specs.Certificate.Cells.{Piece, group_pieces, piece, piece_count, pieces_from}
use Rattle.shares.specs.Boxes.{grid_sides}
use Rattle.shares.specs.Seats.{pieces_of, grid_pieces}
use Rattle.shares.proofs.Ahead.{first_counted, pieces_push}
use Rattle.shares.proofs.Groups.{get_mapped}
use Rattle.shares.proofs.seats.first_seats.Goals as goal

pub overflow_cast-count : goal.overflow_cast-count
overflow_cast-count c =
    let p : Plan = plan_of c.args.plan.now in
    let n = c.loop-group.group in
    let d = c.index.result.now in
    let less = c.loop-group-test.true in
    let all = c.requires.groups in
    let at = get_mapped group_of c.args.plan.now.groups.items n d (omega (arith, less, all)) ∙ ap (λ (y : CodeGroup). Some (group_of y)) (sym c.index.ensures) in
    let known = first_counted p.groups n c.args.groups (group_of d) c.deref.result.now c.most_points-count.result at (omega (arith, less)) c.requires.few
    (c.deref.ensures.value ∙ c.in_ok-sides.ensures ∙ ap grid_sides c.as_slice-grid.ensures.value) c.most_points-count.ensures in
    omega (arith, known.1)

pub push_seats-requires-clause-count : goal.push_seats-requires-clause-count
push_seats-requires-clause-count c =
    let p : Plan = plan_of c.args.plan.now in
    let n = c.loop-group.group in
    let d = c.index.result.now in
    let less = c.loop-group-test.true in
    let all = c.requires.groups in
    let at = get_mapped group_of c.args.plan.now.groups.items n d (omega (arith, less, all)) ∙ ap (λ (y : CodeGroup). Some (group_of y)) (sym c.index.ensures) in
    let known = first_counted p.groups n c.args.groups (group_of d) c.deref.result.now c.most_points-count.result at (omega (arith, less)) c.requires.few
    (c.deref.ensures.value ∙ c.in_ok-sides.ensures ∙ ap grid_sides c.as_slice-grid.ensures.value) c.most_points-count.ensures in
    known.0 ∙ ap piece_count (sym c.as_slice-grid.ensures.value)

pub push_seats-requires-clause-few : goal.push_seats-requires-clause-few
push_seats-requires-clause-few c =
    let p : Plan = plan_of c.args.plan.now in
    let n = c.loop-group.group in
    let d = c.index.result.now in
    let less = c.loop-group-test.true in
    let all = c.requires.groups in
    let at = get_mapped group_of c.args.plan.now.groups.items n d (omega (arith, less, all)) ∙ ap (λ (y : CodeGroup). Some (group_of y)) (sym c.index.ensures) in
    let known = first_counted p.groups n c.args.groups (group_of d) c.deref.result.now c.most_points-count.result at (omega (arith, less)) c.requires.few
    (c.deref.ensures.value ∙ c.in_ok-sides.ensures ∙ ap grid_sides c.as_slice-grid.ensures.value) c.most_points-count.ensures in
    known.1

pub loop-group-preserved : goal.loop-group-preserved
loop-group-preserved c =
    let p : Plan = plan_of c.args.plan.now in
    let n = c.loop-group.group in
    let d = c.index.result.now in
    let less = c.loop-group-test.true in
    let all = c.requires.groups in
    let at = get_mapped group_of c.args.plan.now.groups.items n d (omega (arith, less, all)) ∙ ap (λ (y : CodeGroup). Some (group_of y)) (sym c.index.ensures) in
    let known = first_counted p.groups n c.args.groups (group_of d) c.deref.result.now c.most_points-count.result at (omega (arith, less)) c.requires.few
    (c.deref.ensures.value ∙ c.in_ok-sides.ensures ∙ ap grid_sides c.as_slice-grid.ensures.value) c.most_points-count.ensures in
    let gs = p.groups in
    let old = pieces_of c.loop-group.seats.items in
    let here : n ≡ 0 + n = omega arith in
    record {
      pieces = c.in_ok-push_seats.ensures.pieces
          ∙ ap (λ (xs : List ℕ). old ++ grid_pieces n xs c.most_points-count.result) c.as_slice-grid.ensures.value
          ∙ ap (λ (m : ℕ). old ++ grid_pieces n d.grid.items m) known.0
          ∙ ap (λ (xs : List Piece). xs ++ grid_pieces n d.grid.items (group_pieces (group_of d))) c.loop-group.invariant.pieces
          ∙ ap (λ (m : ℕ). pieces_from 0 (take n gs) ++ map (piece (group_of d) m) (range_with_len 0 (group_pieces (group_of d)))) here
          ∙ sym (pieces_push 0 gs n (group_of d) at);
      small = c.in_ok-push_seats.ensures.small;
    }
