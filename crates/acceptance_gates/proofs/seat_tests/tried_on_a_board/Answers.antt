use Rattle.acceptance_gates.proofs.seat_tests.tried_on_a_board.Goals as goal

pub tried_at-requires-clause-desk : goal.tried_at-requires-clause-desk
tried_at-requires-clause-desk g c = c.desk_of-desk.ensures
