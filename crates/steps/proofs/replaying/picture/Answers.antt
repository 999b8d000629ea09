use Rattle.std.proofs.Common.{arith}
use Rattle.algo.specs.View.{picture_of}
use Rattle.checked_plan.specs.View.{algorithm_checked}
use Rattle.steps.specs.Seats.{shown}
use Rattle.steps.proofs.Accepted.{completed}
use Rattle.steps.proofs.OnePiece.{work_sound}
use Rattle.steps.proofs.replaying.picture.Goals as goal

pub finish_alone-requires-clause-seats : goal.finish_alone-requires-clause-seats
finish_alone-requires-clause-seats c = omega (arith, c.in_ok-crew.ensures.seats)

pub finish_alone-requires-clause-sound : goal.finish_alone-requires-clause-sound
finish_alone-requires-clause-sound c = work_sound c.args.checked.now c.args.inputs.now c.requires

pub output_samples-requires : goal.output_samples-requires
output_samples-requires c =
    let x = c.args.checked.now in
    let w = x.algo.now.well_formed in
    let given = c.inputs_are_samples.ensures (algorithm_checked x) (picture_of c.args.inputs.now) w c.requires in
    completed x c.args.inputs.now (shown c.finish_alone.new.crew) w given c.finish_alone.ensures
