use Rattle.crew.specs.Opening.Layouts.{layout_of, values_of}
use Rattle.commands.proofs.pipeline.image_file.picture_by.Given as goal

abbrev pub ghosts-picture_on : goal.ghosts-picture_on
ghosts-picture_on g a = record { layout = layout_of a.checked.now; values = values_of a.checked.now a.inputs.now }

abbrev pub ghosts-crew_on : goal.ghosts-crew_on
ghosts-crew_on g a = record { layout = layout_of a.checked.now; values = values_of a.checked.now a.inputs.now }
