use Rattle.std.proofs.Common.{sym, ap, ◌∙◌, List}
use Rattle.std.proofs.Props.{props}
use Rattle.std.proofs.Math.Logic.{∥∥₁_elim}
use Rattle.soundness.specs.declared.outline.rooms.Room.{Room}
use Rattle.soundness.specs.Outline.Rooms.{first_room, places_in}
use Rattle.soundness.proofs.outline.outlined.Outlined.buffer_places.Goals as goal

pub returns-in-Some : goal.returns-in-Some
returns-in-Some c = ∥∥₁_elim c.args.self.now.noted (hlevel props) (λ noted.
    let b = c.args.buffer in
    ap places_in (sym (noted b) ∙ ap (λ (xs : List Room). first_room xs b) (sym c.deref.ensures.value) ∙ c.in-Some.ensures))

pub returns-in-None : goal.returns-in-None
returns-in-None c = ∥∥₁_elim c.args.self.now.noted (hlevel props) (λ noted.
    let b = c.args.buffer in
    sym (noted b) ∙ ap (λ (xs : List Room). first_room xs b) (sym c.deref.ensures.value) ∙ c.in-None.ensures)
