use Rattle.interpreter.proofs.placing.+are_same_registers.Given as goal

abbrev pub decreases-are_same_registers : goal.decreases-are_same_registers
decreases-are_same_registers l = l.width
