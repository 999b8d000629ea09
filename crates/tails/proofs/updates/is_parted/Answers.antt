use Rattle.std.proofs.Common.{map, ap, ◌∙◌}
use Rattle.std.specs.Borrow.{Bor}
use Rattle.lin.specs.Forms.{Form}
use Rattle.plan.specs.View.{coordinate_of}
use Rattle.tails.specs.View.{step_of}
use Rattle.tails.specs.Held.{pendings_of}
use Rattle.tails.proofs.Stores.{parted_with}
use Rattle.tails.proofs.updates.is_parted.Goals as goal

pub returns : goal.returns
returns c =
    c.are_parted.ensures
    ∙ parted_with (map coordinate_of c.args.over.now) (map step_of c.args.steps.now) (map step_of c.deref.result.now) (map step_of c.deref-4.result.now) (map (λ (f : Bor Form). f.now) c.args.forms.now)
    (pendings_of c.deref-2.result.now) (pendings_of c.deref-3.result.now)
    (ap pendings_of c.deref-2.ensures.value ∙ c.in_ok-all.ensures) (ap pendings_of c.deref-3.ensures.value ∙ c.in_ok-loops.ensures)
    (ap (map step_of) c.deref.ensures.value ∙ c.in_ok-reducing.ensures) (ap (map step_of) c.deref-4.ensures.value ∙ c.in_ok-others.ensures)
