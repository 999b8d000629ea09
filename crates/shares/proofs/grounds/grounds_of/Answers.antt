use Rattle.std.proofs.Common.{◌≡◌, ℕ, ◌+◌, sym, ◌∙◌, subst, arith, length}
use Rattle.plan.specs.Plan.{Plan}
use Rattle.plan.specs.View.{plan_of, group_of}
use Rattle.plan.specs.Certificate.Certificate.{Certificate, certificate_of}
use Rattle.shares.specs.Grounds.{AreGrounds}
use Rattle.shares.proofs.Groups.{no_cells, no_pieces, group_below, cells_next, pieces_after}
use Rattle.shares.proofs.Known.{cells_counted, pieces_counted, grounds_none, grounds_more}
use Rattle.shares.proofs.grounds.grounds_of.Goals as goal

pub loop-number-init : goal.loop-number-init
loop-number-init c = record {
  grounds = grounds_none (plan_of c.args.plan.now) (certificate_of c.args.cert.now) c.new-grounds.result.items c.new-grounds.ensures.items;
  cell = sym (no_cells (plan_of c.args.plan.now).groups);
  piece = sym (no_pieces (plan_of c.args.plan.now).groups);
}

pub overflow_cast-first_cell : goal.overflow_cast-first_cell
overflow_cast-first_cell c =
    let made = group_below c.args.plan.now.groups.items c.loop-number.number (omega (arith, c.loop-number-test.true, c.len-number-end.ensures)) in
    let p : Plan = plan_of c.args.plan.now in
    let cert : Certificate = certificate_of c.args.cert.now in
    let n = c.loop-number.number in
    let ground = c.in_ok-ground.ensures (group_of made.0) made.1 in
    let cells = cells_counted p cert n (group_of made.0) c.in_ok-ground.ground ground c.deref.result.now c.most_points.result c.deref.ensures.value c.most_points.ensures in
    omega (arith, cells.1)

pub overflow_add-first_cell : goal.overflow_add-first_cell
overflow_add-first_cell c =
    let made = group_below c.args.plan.now.groups.items c.loop-number.number (omega (arith, c.loop-number-test.true, c.len-number-end.ensures)) in
    let p : Plan = plan_of c.args.plan.now in
    let cert : Certificate = certificate_of c.args.cert.now in
    let n = c.loop-number.number in
    let ground = c.in_ok-ground.ensures (group_of made.0) made.1 in
    let cells = cells_counted p cert n (group_of made.0) c.in_ok-ground.ground ground c.deref.result.now c.most_points.result c.deref.ensures.value c.most_points.ensures in
    let first = c.loop-number.invariant.cell in
    omega (arith, cells.1, first)

pub overflow_cast-first_piece : goal.overflow_cast-first_piece
overflow_cast-first_piece c =
    let made = group_below c.args.plan.now.groups.items c.loop-number.number (omega (arith, c.loop-number-test.true, c.len-number-end.ensures)) in
    let p : Plan = plan_of c.args.plan.now in
    let cert : Certificate = certificate_of c.args.cert.now in
    let n = c.loop-number.number in
    let ground = c.in_ok-ground.ensures (group_of made.0) made.1 in
    let cells = cells_counted p cert n (group_of made.0) c.in_ok-ground.ground ground c.deref.result.now c.most_points.result c.deref.ensures.value c.most_points.ensures in
    let pieces = pieces_counted p cert n (group_of made.0) c.in_ok-ground.ground ground c.deref-in-loop-number.result.now c.most_points-in-loop-number.result c.deref-in-loop-number.ensures.value c.most_points-in-loop-number.ensures in
    omega (arith, pieces.1)

pub overflow_add-first_piece : goal.overflow_add-first_piece
overflow_add-first_piece c =
    let made = group_below c.args.plan.now.groups.items c.loop-number.number (omega (arith, c.loop-number-test.true, c.len-number-end.ensures)) in
    let p : Plan = plan_of c.args.plan.now in
    let cert : Certificate = certificate_of c.args.cert.now in
    let n = c.loop-number.number in
    let ground = c.in_ok-ground.ensures (group_of made.0) made.1 in
    let cells = cells_counted p cert n (group_of made.0) c.in_ok-ground.ground ground c.deref.result.now c.most_points.result c.deref.ensures.value c.most_points.ensures in
    let pieces = pieces_counted p cert n (group_of made.0) c.in_ok-ground.ground ground c.deref-in-loop-number.result.now c.most_points-in-loop-number.result c.deref-in-loop-number.ensures.value c.most_points-in-loop-number.ensures in
    let first = c.loop-number.invariant.piece in
    omega (arith, pieces.1, first)

pub loop-number-preserved : goal.loop-number-preserved
loop-number-preserved c =
    let made = group_below c.args.plan.now.groups.items c.loop-number.number (omega (arith, c.loop-number-test.true, c.len-number-end.ensures)) in
    let p : Plan = plan_of c.args.plan.now in
    let cert : Certificate = certificate_of c.args.cert.now in
    let n = c.loop-number.number in
    let ground = c.in_ok-ground.ensures (group_of made.0) made.1 in
    let cells = cells_counted p cert n (group_of made.0) c.in_ok-ground.ground ground c.deref.result.now c.most_points.result c.deref.ensures.value c.most_points.ensures in
    let pieces = pieces_counted p cert n (group_of made.0) c.in_ok-ground.ground ground c.deref-in-loop-number.result.now c.most_points-in-loop-number.result c.deref-in-loop-number.ensures.value c.most_points-in-loop-number.ensures in
    let gs = (plan_of c.args.plan.now).groups in
    record {
      grounds = subst (AreGrounds p cert (n + 1)) (sym c.in_ok-push.ensures.items) (grounds_more p cert n c.loop-number.grounds.items c.in_ok-ground.ground c.loop-number.invariant.grounds c.in_ok-ground.ensures);
      cell = (λ i. c.loop-number.invariant.cell i + cells.0 i) ∙ sym (cells_next gs n (group_of made.0) made.1);
      piece = (λ i. c.loop-number.invariant.piece i + pieces.0 i) ∙ sym (pieces_after gs n (group_of made.0) made.1);
    }

pub returns : goal.returns
returns c =
    let end : c.loop-number.number ≡ length c.args.plan.now.groups.items = omega (arith, c.loop-number-test.false, c.loop-number.auto.number-end, c.len-number-end.ensures) in
    subst (λ (n : ℕ). AreGrounds (plan_of c.args.plan.now) (certificate_of c.args.cert.now) n c.loop-number.grounds.items) end c.loop-number.invariant.grounds
