use Rattle.std.proofs.Common.{ap, ◌∙◌, List}
use Rattle.soundness.specs.declared.outline.rooms.Room.{Room}
use Rattle.soundness.specs.Outline.Rooms.{first_room}
use Rattle.soundness.proofs.OfOutline.Noted.{first_room-push}
use Rattle.soundness.proofs.outline.rooms.note.Goals as goal

pub returns-in_ok-push : goal.returns-in_ok-push
returns-in_ok-push c = λ b. ap (λ (xs : List Room). first_room xs b) c.in_ok-push.ensures.items ∙ first_room-push c.args.rooms.now.items c.args.room b
