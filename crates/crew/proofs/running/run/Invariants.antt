use Rattle.crew.specs.Opening.Layouts.{layout_of, values_of}
use Rattle.crew.proofs.running.run.Given as goal

abbrev pub ghosts-run_on : goal.ghosts-run_on
ghosts-run_on g a = record { layout = layout_of a.checked.now; values = values_of a.checked.now a.inputs.now }
