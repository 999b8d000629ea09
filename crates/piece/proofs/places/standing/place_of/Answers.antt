use Rattle.std.proofs.Common.{◌≡◌, ◌+◌, ◌-◌, ◌^◌, ◌<◌, min, length, List, ap, ◌∙◌, arith, rules}
use Rattle.std.proofs.lemmas.List.{length-map}
use Rattle.plan.specs.View.{group_of, plan_of}
use Rattle.plan.specs.declared.plan.Group.{Group as CodeGroup}
use Rattle.plan.specs.Certificate.Cells.{first_piece, group_pieces, piece_count}
use Rattle.piece.proofs.Walks.{first_next, group_at, none_first, passed, past}
use Rattle.piece.proofs.places.standing.place_of.Goals as goal

pub loop-group-init : goal.loop-group-init
loop-group-init c = none_first (plan_of c.args.plan.now).groups c.args.piece

pub returns-then-from-count : goal.returns-then-from-count
returns-then-from-count c =
    let size : piece_count c.as_slice.result.now ≡ group_pieces (group_of c.of-item.result) = ap piece_count c.as_slice.ensures.value in
    record {
      g = group_of c.of-item.result;
      at = group_at c.args.plan.now.groups.items c.deref-of-items.result.now c.loop-group.group c.of-item.result c.deref-of-items.ensures.value c.loop-group-test.true c.of-item.is;
      inside = omega (arith, size, c.if-from-count.true, c.from.ensures, c.point_count-count.ensures);
      number = c.loop-group.invariant;
    }

pub loop-group-preserved : goal.loop-group-preserved
loop-group-preserved c =
    let size : piece_count c.as_slice.result.now ≡ group_pieces (group_of c.of-item.result) = ap piece_count c.as_slice.ensures.value in
    let at = group_at c.args.plan.now.groups.items c.deref-of-items.result.now c.loop-group.group c.of-item.result c.deref-of-items.ensures.value c.loop-group-test.true c.of-item.is in
    let next = first_next (plan_of c.args.plan.now).groups c.loop-group.group (group_of c.of-item.result) at in
    let small : c.loop-group.rank < 2 ^ 32 = search rules in
    passed (first_piece (plan_of c.args.plan.now).groups c.loop-group.group) (first_piece (plan_of c.args.plan.now).groups (c.loop-group.group + 1)) (group_pieces (group_of c.of-item.result)) c.args.piece c.loop-group.rank c.point_count-count.result
    (c.point_count-count.ensures ∙ ap (λ n. min n (2 ^ 64 - 1)) size) next c.loop-group.invariant (omega (arith, c.if-from-count.false, c.from.ensures)) small

pub unreachable-requires : goal.unreachable-requires
unreachable-requires c =
    let gs = (plan_of c.args.plan.now).groups in
    let long : length gs ≡ length c.args.plan.now.groups.items = length-map c.args.plan.now.groups.items group_of in
    let read : length c.deref-of-items.result.now ≡ length c.args.plan.now.groups.items = ap (λ (xs : List CodeGroup). length xs) c.deref-of-items.ensures.value in
    let end : c.loop-group.group ≡ length gs = omega (arith, long, read, c.loop-group-test.false, c.loop-group.auto.group-end) in
    past gs c.loop-group.group c.args.piece c.loop-group.rank end c.loop-group.invariant c.requires
