use Rattle.std.proofs.Common.{subst, sym}
use Rattle.std.specs.Prelude.{vec_capacity}
use Rattle.meaning.specs.Image.View.{Picture}
use Rattle.algo.specs.View.{algorithm_of, memory_of, samples_of}
use Rattle.commands.specs.Rooms.{HasRoomFor}
use Rattle.commands.proofs.Rooms.{said_has_room}
use Rattle.commands.proofs.picture.plain_file.Goals as goal

pub file_in-requires-clause-room : goal.file_in-requires-clause-room
file_in-requires-clause-room g c =
    let own = vec_capacity c.in_ok-file.file in
    let other = memory_of c.args.inputs in
    let HasFor : Picture → Type 0 = λ p. HasRoomFor p own other in
    subst HasFor (sym c.in_ok-image.ensures.picture) (said_has_room (algorithm_of c.args.algo.now) (samples_of c.args.inputs) own other c.in_ok-file.ensures.room)
