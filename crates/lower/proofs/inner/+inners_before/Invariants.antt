use Rattle.lower.proofs.inner.+inners_before.Given as goal

abbrev pub decreases-inners_before : goal.decreases-inners_before
decreases-inners_before l = l.count
