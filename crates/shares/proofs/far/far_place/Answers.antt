use Rattle.std.proofs.Common.{arith}
use Rattle.std.proofs.lemmas.List.Elements.{All-nil}
use Rattle.shares.specs.FetchLines.{LineIsLimited, LineIsNear}
use Rattle.shares.specs.Seats.{pieces_of}
use Rattle.shares.proofs.Passing.{far_here, near_end, near_more, of_line}
use Rattle.shares.proofs.far.far_place.Goals as goal

pub loop-place-init : goal.loop-place-init
loop-place-init c = All-nil (LineIsNear (pieces_of c.args.seats.now))

pub is_far_in_group-requires-clause-lets : goal.is_far_in_group-requires-clause-lets
is_far_in_group-requires-clause-lets c =
    (of_line (pieces_of c.args.seats.now) c.args.lines.now c.loop-place.place c.index-lines-place.result c.loop-place-test.true c.index-lines-place.is LineIsLimited c.requires.limits).1

pub returns-then-branch : goal.returns-then-branch
returns-then-branch c =
    far_here (pieces_of c.args.seats.now) c.args.lines.now c.loop-place.place c.index-lines-place.result c.loop-place-test.true c.index-lines-place.is
    c.loop-place.invariant (c.in_ok-is_far_in_group.ensures.far c.if-branch.true)

pub loop-place-preserved : goal.loop-place-preserved
loop-place-preserved c =
    near_more (pieces_of c.args.seats.now) c.args.lines.now c.loop-place.place c.index-lines-place.result c.loop-place-test.true c.index-lines-place.is
    c.loop-place.invariant (c.in_ok-is_far_in_group.ensures.near c.if-branch.false)

pub returns : goal.returns
returns c =
    let past = c.loop-place-test.false in
    near_end (pieces_of c.args.seats.now) c.args.lines.now c.loop-place.place (omega (arith, past)) c.loop-place.invariant
