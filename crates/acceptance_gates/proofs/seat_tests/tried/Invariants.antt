use Rattle.crew.specs.Opening.Layouts.{layout_of, values_of}
use Rattle.acceptance_gates.proofs.seat_tests.tried.Given as goal

abbrev pub ghosts-tried_on_a_board : goal.ghosts-tried_on_a_board
ghosts-tried_on_a_board g a = record { layout = layout_of a.checked.now; values = values_of a.checked.now a.inputs.now }
