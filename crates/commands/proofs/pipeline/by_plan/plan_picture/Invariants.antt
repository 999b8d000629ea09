use Rattle.crew.specs.Opening.Layouts.{layout_of, values_of}
use Rattle.commands.proofs.pipeline.by_plan.plan_picture.Given as goal

abbrev pub ghosts-picture_on : goal.ghosts-picture_on
ghosts-picture_on g a = record { layout = layout_of a.checked.now; values = values_of a.checked.now a.inputs.now }
