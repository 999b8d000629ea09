use Rattle.crop.proofs.scene_error.has_large_range.Given as goal

abbrev pub invariant-loop-domain : goal.invariant-loop-domain
invariant-loop-domain l = Unit {0}
