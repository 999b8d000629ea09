use Rattle.std.proofs.Common.{arith}
use Rattle.steps.proofs.OnePiece.{work_sound}
use Rattle.steps.proofs.replaying.replay.Goals as goal

pub go-requires-clause-workers : goal.go-requires-clause-workers
go-requires-clause-workers c = λ k d lt. let inside = c.seats_of.ensures k d lt in omega (arith, inside, c.in_ok-crew.ensures.seats)

pub go-requires-clause-sound : goal.go-requires-clause-sound
go-requires-clause-sound c = work_sound c.args.checked.now c.args.inputs.now c.requires.input
