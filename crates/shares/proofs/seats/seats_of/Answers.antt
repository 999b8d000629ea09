use Rattle.std.proofs.Common.{ℕ, List, ◌++◌, ◌+◌, ap, sym, ◌∙◌, Some, arith, drop, append_assoc}
use Rattle.std.proofs.lemmas.List.{length-map, append-nil}
use Rattle.plan.specs.Plan.{Plan}
use Rattle.plan.specs.View.{plan_of, group_of}
use Rattle.plan.specs.declared.plan.Group.{Group as CodeGroup}
use Rattle.plan.specs.Certificate.Cells.{Piece, pieces_from, piece_count}
use Rattle.shares.specs.declared.grounds.Ground.{Ground}
use Rattle.shares.specs.Seats.{pieces_of, grid_pieces}
use Rattle.shares.proofs.Groups.{get_mapped, get_some, pieces_at, pieces_end}
use Rattle.shares.proofs.Known.{seats_counted}
use Rattle.shares.proofs.seats.seats_of.Goals as goal

pub overflow_cast-count : goal.overflow_cast-count
overflow_cast-count c =
    let p : Plan = plan_of c.args.plan.now in
    let n = c.loop-group.group in
    let d = c.index.result.now in
    let x = c.index-grounds-group.result in
    let less = c.loop-group-test.true in
    let all = c.requires.grounds in
    let at = get_mapped group_of c.args.plan.now.groups.items n d (omega (arith, less, all)) ∙ ap (λ (y : CodeGroup). Some (group_of y)) (sym c.index.ensures) in
    let this = get_some c.args.grounds.now n x less ∙ ap (λ (y : Ground). Some y) (sym c.index-grounds-group.is) in
    let known = seats_counted p c.args.grounds.now n (group_of d) x c.deref.result.now c.most_points-count.result c.requires.few at this c.requires.grids c.deref.ensures.value c.most_points-count.ensures in
    omega (arith, known.1)

pub push_seats-requires-clause-count : goal.push_seats-requires-clause-count
push_seats-requires-clause-count c =
    let p : Plan = plan_of c.args.plan.now in
    let n = c.loop-group.group in
    let d = c.index.result.now in
    let x = c.index-grounds-group.result in
    let less = c.loop-group-test.true in
    let all = c.requires.grounds in
    let at = get_mapped group_of c.args.plan.now.groups.items n d (omega (arith, less, all)) ∙ ap (λ (y : CodeGroup). Some (group_of y)) (sym c.index.ensures) in
    let this = get_some c.args.grounds.now n x less ∙ ap (λ (y : Ground). Some y) (sym c.index-grounds-group.is) in
    let known = seats_counted p c.args.grounds.now n (group_of d) x c.deref.result.now c.most_points-count.result c.requires.few at this c.requires.grids c.deref.ensures.value c.most_points-count.ensures in
    known.0 ∙ ap piece_count (sym c.as_slice-grid.ensures.value)

pub push_seats-requires-clause-few : goal.push_seats-requires-clause-few
push_seats-requires-clause-few c =
    let p : Plan = plan_of c.args.plan.now in
    let n = c.loop-group.group in
    let d = c.index.result.now in
    let x = c.index-grounds-group.result in
    let less = c.loop-group-test.true in
    let all = c.requires.grounds in
    let at = get_mapped group_of c.args.plan.now.groups.items n d (omega (arith, less, all)) ∙ ap (λ (y : CodeGroup). Some (group_of y)) (sym c.index.ensures) in
    let this = get_some c.args.grounds.now n x less ∙ ap (λ (y : Ground). Some y) (sym c.index-grounds-group.is) in
    let known = seats_counted p c.args.grounds.now n (group_of d) x c.deref.result.now c.most_points-count.result c.requires.few at this c.requires.grids c.deref.ensures.value c.most_points-count.ensures in
    known.1

pub loop-group-preserved : goal.loop-group-preserved
loop-group-preserved c =
    let p : Plan = plan_of c.args.plan.now in
    let n = c.loop-group.group in
    let d = c.index.result.now in
    let x = c.index-grounds-group.result in
    let less = c.loop-group-test.true in
    let all = c.requires.grounds in
    let at = get_mapped group_of c.args.plan.now.groups.items n d (omega (arith, less, all)) ∙ ap (λ (y : CodeGroup). Some (group_of y)) (sym c.index.ensures) in
    let this = get_some c.args.grounds.now n x less ∙ ap (λ (y : Ground). Some y) (sym c.index-grounds-group.is) in
    let known = seats_counted p c.args.grounds.now n (group_of d) x c.deref.result.now c.most_points-count.result c.requires.few at this c.requires.grids c.deref.ensures.value c.most_points-count.ensures in
    let gs = p.groups in
    let old = pieces_of c.loop-group.seats.items in
    let later = pieces_from (n + 1) (drop (n + 1) gs) in
    record {
      pieces = ap (λ (xs : List Piece). xs ++ later) c.in_ok-push_seats.ensures.pieces
          ∙ append_assoc old (grid_pieces n c.as_slice-grid.result.now c.most_points-count.result) later
          ∙ ap (λ (xs : List ℕ). old ++ (grid_pieces n xs c.most_points-count.result ++ later)) c.as_slice-grid.ensures.value
          ∙ ap (λ (m : ℕ). old ++ (grid_pieces n d.grid.items m ++ later)) known.0
          ∙ ap (λ (xs : List Piece). old ++ xs) (sym (pieces_at gs n n (group_of d) at))
          ∙ c.loop-group.invariant.pieces;
      small = c.in_ok-push_seats.ensures.small;
    }

pub returns-clause-pieces : goal.returns-clause-pieces
returns-clause-pieces c =
    let gs = (plan_of c.args.plan.now).groups in
    let seats = pieces_of c.loop-group.seats.items in
    let long = length-map c.args.plan.now.groups.items group_of in
    let past = c.loop-group-test.false in
    let all = c.requires.grounds in
    sym (append-nil seats) ∙ ap (λ (xs : List Piece). seats ++ xs) (sym (pieces_end gs c.loop-group.group c.loop-group.group (omega (arith, long, past, all)))) ∙ c.loop-group.invariant.pieces
