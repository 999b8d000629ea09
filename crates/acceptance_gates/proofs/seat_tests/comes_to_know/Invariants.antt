use Rattle.std.proofs.Common.{◌≡◌}
use Rattle.acceptance_gates.proofs.seat_tests.comes_to_know.Given as goal

abbrev pub invariant-loop-turn : goal.invariant-loop-turn
invariant-loop-turn g l = l.seat.board ≡ l.initial.seat.board
