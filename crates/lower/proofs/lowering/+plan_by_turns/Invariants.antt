use Rattle.lower.proofs.lowering.+plan_by_turns.Given as goal

abbrev pub decreases-plan_by_turns : goal.decreases-plan_by_turns
decreases-plan_by_turns l = l.rounds
