use Rattle.std.proofs.Common.{refl, arith}
use Rattle.shares.specs.FetchLines.{LineIsLimited, LineIsNear}
use Rattle.shares.specs.Seats.{pieces_of}
use Rattle.shares.proofs.Passing.{all_have_room, of_line, passes_here, room_left}
use Rattle.shares.proofs.counts.passing_place.Goals as goal

pub loop-place-init : goal.loop-place-init
loop-place-init c = refl

pub cells_of_group-requires-clause-region : goal.cells_of_group-requires-clause-region
cells_of_group-requires-clause-region c =
    (of_line (pieces_of c.args.seats.now) c.args.lines.now c.loop-place.place c.index-lines-place.result c.loop-place-test.true c.index-lines-place.is LineIsLimited c.requires.limits).0

pub cells_of_group-requires-clause-lets : goal.cells_of_group-requires-clause-lets
cells_of_group-requires-clause-lets c =
    (of_line (pieces_of c.args.seats.now) c.args.lines.now c.loop-place.place c.index-lines-place.result c.loop-place-test.true c.index-lines-place.is LineIsLimited c.requires.limits).1

pub cells_of_group-requires-clause-near : goal.cells_of_group-requires-clause-near
cells_of_group-requires-clause-near c =
    let js = pieces_of c.args.seats.now in
    of_line js c.args.lines.now c.loop-place.place c.index-lines-place.result c.loop-place-test.true c.index-lines-place.is (LineIsNear js) c.requires.near

pub returns-then-count-room : goal.returns-then-count-room
returns-then-count-room c =
    passes_here (pieces_of c.args.seats.now) c.args.lines.now c.loop-place.place c.index-lines-place.result c.loop-place-test.true c.index-lines-place.is
    c.loop-place.room c.in_ok-count.count c.loop-place.invariant c.in_ok-count.ensures c.if-count-room.true

pub loop-place-preserved : goal.loop-place-preserved
loop-place-preserved c =
    room_left (pieces_of c.args.seats.now) c.args.lines.now c.loop-place.place c.index-lines-place.result c.loop-place-test.true c.index-lines-place.is
    c.loop-place.room c.in_ok-count.count c.loop-place.invariant c.in_ok-count.ensures c.if-count-room.false

pub returns : goal.returns
returns c =
    let past = c.loop-place-test.false in
    all_have_room (pieces_of c.args.seats.now) c.args.lines.now c.loop-place.place c.loop-place.room (omega (arith, past)) c.loop-place.invariant
