use Rattle.std.proofs.Common.{◌≡◌, ◌∙◌, ◌+◌, ◌<◌, List, map, sym, ap, subst, length, arith, Bor, Vec, Global}
use Rattle.std.proofs.lemmas.List.{length-map}
use Rattle.plan.specs.View.{plan_of}
use Rattle.plan.specs.declared.certificate.cert.Need.{Need}
use Rattle.plan.specs.Certificate.Certificate.{certificate_of}
use Rattle.plan.specs.Certificate.Cells.{pieces}
use Rattle.shares.specs.Filed.{AreFiled}
use Rattle.shares.specs.Seats.{piece_of}
use Rattle.shares.specs.Made.{TroubleMeans}
use Rattle.shares.specs.Blocks.{StandFor}
use Rattle.shares.proofs.Blocking.{walk_later}
use Rattle.shares.proofs.Gathering.{have_lines}
use Rattle.shares.proofs.Counting.{trouble_means, fetched_next, needed_next, are_few}
use Rattle.shares.proofs.Filing.{row}
use Rattle.shares.proofs.Looking.{made_none, made_next, made_all}
use Rattle.shares.proofs.lists.lists_of.Goals as goal

pub gathered_needs-requires-clause-filed : goal.gathered_needs-requires-clause-filed
gathered_needs-requires-clause-filed c =
    let x = c.args.layout.now in
    let n = length x.plan.now.groups.items in
    subst (λ (ls : List (Vec (Bor Need) Global)). AreFiled c.deref.result.now n (map row ls)) (sym c.deref-2.ensures.value)
    (subst (λ (ns : List Need). AreFiled ns n (map row x.needs.items)) (sym c.deref.ensures.value) c.requires.layout.needs)

pub step_to-requires-clause-gathered : goal.step_to-requires-clause-gathered
step_to-requires-clause-gathered c =
    have_lines (plan_of c.args.layout.now.plan.now) c.deref.result.now (length c.args.layout.now.plan.now.groups.items) c.in_ok-gathered.gathered.items c.in_ok-gathered.ensures

pub looks_at-requires-clause-moving : goal.looks_at-requires-clause-moving
looks_at-requires-clause-moving c =
    subst (λ (ls : List (Bor Need)). StandFor c.args.layout.now.seats.items c.in_ok-gathered.gathered.items c.loop-piece.piece (map (λ n. n.now) ls)) (sym c.deref-in-loop-piece.ensures.value) c.in_ok-step_to.ensures.moving

pub put_looks-requires : goal.put_looks-requires
put_looks-requires c =
    let x = c.args.layout.now in
    let p = plan_of x.plan.now in
    let seats = x.seats.items in
    let many : length seats ≡ length (pieces p) = sym (length-map seats piece_of) ∙ ap length c.requires.layout.seats in
    let all = c.len-piece-end.ensures in
    let here = c.loop-piece.invariant.made.own.count in
    omega (arith, c.loop-piece-test.true, all, many, here)

pub loop-piece-init : goal.loop-piece-init
loop-piece-init c =
    let x = c.args.layout.now in
    record {
      made = made_none (plan_of x.plan.now) (certificate_of x.cert.now) c.args.owned.items c.requires.own;
      cells = omega arith;
      pieces = omega arith;
      walk = c.new_walk-walk.ensures x.seats.items c.in_ok-gathered.gathered.items 0;
    }

pub loop-piece-preserved : goal.loop-piece-preserved
loop-piece-preserved c =
    let x = c.args.layout.now in
    let p = plan_of x.plan.now in let cert = certificate_of x.cert.now in
    let seats = x.seats.items in
    let many : length seats ≡ length (pieces p) = sym (length-map seats piece_of) ∙ ap length c.requires.layout.seats in
    let all = c.len-piece-end.ensures in
    let here = c.loop-piece.invariant.made.own.count in
    let n = c.loop-piece.piece in
    let looks = c.in-Ok.looks in
    let fetched = ap length (c.as_slice.ensures.value ∙ c.in-Ok.ensures.looks.fetched) in
    let needs = ap length (c.as_slice-in-loop-piece.ensures.value ∙ c.in-Ok.ensures.looks.needs) in
    let has = ap length c.in-Ok.ensures.looks.fetched in
    let wants = ap length c.in-Ok.ensures.looks.needs in
    let more = fetched_next p n in
    let further = needed_next p cert n in
    let cells = c.loop-piece.invariant.cells in
    let counted = c.loop-piece.invariant.pieces in
    let room = c.in-Ok.ensures.cells in
    let places = c.in-Ok.ensures.pieces in
    record {
      made = made_next p cert c.loop-piece.lists.items c.put_looks.new.lists.items n looks c.loop-piece.invariant.made (omega (arith, c.loop-piece-test.true, all, many, here)) c.in-Ok.ensures.looks c.put_looks.ensures;
      cells = omega (arith, fetched, has, more, cells, room);
      pieces = omega (arith, needs, wants, further, counted, places);
      walk = walk_later seats c.in_ok-gathered.gathered.items n (n + 1) c.step_to.new.walk (omega arith) c.in_ok-step_to.ensures.walk;
    }

pub returns-clause-made : goal.returns-clause-made
returns-clause-made c =
    let x = c.args.layout.now in
    let p = plan_of x.plan.now in let cert = certificate_of x.cert.now in
    let seats = x.seats.items in
    let many : length seats ≡ length (pieces p) = sym (length-map seats piece_of) ∙ ap length c.requires.layout.seats in
    let all = c.len-piece-end.ensures in
    let end = c.loop-piece.auto.piece-end in
    made_all p cert c.loop-piece.lists.items c.loop-piece.piece c.loop-piece.invariant.made (omega (arith, many, all, end, c.loop-piece-test.false))

pub returns-clause-count : goal.returns-clause-count
returns-clause-count c =
    let x = c.args.layout.now in
    let many : length x.seats.items ≡ length (pieces (plan_of x.plan.now)) = sym (length-map x.seats.items piece_of) ∙ ap length c.requires.layout.seats in
    c.loop-piece.invariant.made.own.count ∙ sym many

pub returns-in-Err-clause-trouble : goal.returns-in-Err-clause-trouble
returns-in-Err-clause-trouble c =
    let x = c.args.layout.now in
    let p = plan_of x.plan.now in let cert = certificate_of x.cert.now in
    let n = c.loop-piece.piece in
    let seats = x.seats.items in
    let many : length seats ≡ length (pieces p) = sym (length-map seats piece_of) ∙ ap length c.requires.layout.seats in
    let all = c.len-piece-end.ensures in
    let less : n < length seats = omega (arith, c.loop-piece-test.true, all) in
    subst (TroubleMeans p cert (length seats)) (sym c.trouble_of.ensures)
    (trouble_means p cert n (length seats) c.loop-piece.cells c.loop-piece.pieces c.in-Err.stop less many c.loop-piece.invariant.cells c.loop-piece.invariant.pieces c.in-Err.ensures.stop)

pub returns-clause-few : goal.returns-clause-few
returns-clause-few c =
    let x = c.args.layout.now in
    let p = plan_of x.plan.now in let cert = certificate_of x.cert.now in
    let seats = x.seats.items in
    let many : length seats ≡ length (pieces p) = sym (length-map seats piece_of) ∙ ap length c.requires.layout.seats in
    let all = c.len-piece-end.ensures in
    let end = c.loop-piece.auto.piece-end in
    are_few p cert c.loop-piece.piece c.loop-piece.cells c.loop-piece.pieces (omega (arith, many, all, end, c.loop-piece-test.false)) c.loop-piece.invariant.cells c.loop-piece.invariant.pieces
