use Rattle.crop.proofs.scene_error.large_reduction.Given as goal

abbrev pub invariant-loop-statement : goal.invariant-loop-statement
invariant-loop-statement l = Unit {0}
