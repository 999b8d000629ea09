use Rattle.crew.specs.Opening.Layouts.{layout_of, values_of}
use Rattle.acceptance_gates.proofs.thread_tests.two_threads_meet_at_a_gate.Given as goal

abbrev pub ghosts-compute_by_two : goal.ghosts-compute_by_two
ghosts-compute_by_two g a = record { layout = layout_of a.checked.now; values = values_of a.checked.now a.inputs.now }
