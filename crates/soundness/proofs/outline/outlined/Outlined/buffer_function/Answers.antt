use Rattle.std.proofs.Common.{sym, ap, ◌∙◌, List}
use Rattle.std.proofs.Props.{props}
use Rattle.std.proofs.Math.Logic.{∥∥₁_elim}
use Rattle.plan.specs.Semantics.Setting.{function_in}
use Rattle.soundness.specs.declared.outline.rooms.Room.{Room}
use Rattle.soundness.specs.Outline.Rooms.{first_room}
use Rattle.soundness.proofs.outline.outlined.Outlined.buffer_function.Goals as goal

pub returns-in-Some : goal.returns-in-Some
returns-in-Some c = ∥∥₁_elim c.args.self.now.noted (hlevel props) (λ noted.
    let b = c.args.buffer in
    ap function_in (sym c.in-Some.ensures ∙ ap (λ (xs : List Room). first_room xs b) c.deref.ensures.value ∙ noted b))

pub returns-in-None : goal.returns-in-None
returns-in-None c = ∥∥₁_elim c.args.self.now.noted (hlevel props) (λ noted.
    let b = c.args.buffer in
    ap function_in (sym c.in-None.ensures ∙ ap (λ (xs : List Room). first_room xs b) c.deref.ensures.value ∙ noted b))
