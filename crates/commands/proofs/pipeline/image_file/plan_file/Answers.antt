use Rattle.std.proofs.Common.{subst, sym}
use Rattle.std.specs.Prelude.{vec_capacity}
use Rattle.meaning.specs.Algorithm.{Algorithm}
use Rattle.meaning.specs.Image.View.{Picture}
use Rattle.algo.specs.Parts.{output_frame}
use Rattle.algo.specs.View.{memory_of, samples_of}
use Rattle.checked_plan.specs.View.{algorithm_checked}
use Rattle.commands.specs.Rooms.{HasRoom, HasRoomFor}
use Rattle.commands.proofs.Rooms.{said_has_room}
use Rattle.commands.proofs.pipeline.image_file.plan_file.Goals as goal

pub file_in-requires-clause-room : goal.file_in-requires-clause-room
file_in-requires-clause-room g c =
    let own = vec_capacity c.in_ok-file.file in
    let other = memory_of c.args.inputs in
    let Has : Algorithm → Type 0 = λ a. HasRoom (output_frame a) own other in
    let HasFor : Picture → Type 0 = λ p. HasRoomFor p own other in
    let room = said_has_room (algorithm_checked c.args.checked.now) (samples_of c.args.inputs) own other (subst Has c.algo.ensures c.in_ok-file.ensures.room) in
    subst HasFor (sym c.in_ok-image.ensures) room
