use Rattle.std.proofs.Common.{◌≡◌, take}
use Rattle.tree.specs.Term.{indices, list_terms}
use Rattle.soundness.specs.Outline.View.{outline_in}
use Rattle.obligations.specs.Loads.{intervals_in}
use Rattle.obligations.proofs.loads.intervals.Given as goal

abbrev pub invariant-loop-index : goal.invariant-loop-index
invariant-loop-index g l = l.spans ≡ intervals_in (outline_in l.judge.outlined.now) (g.B.Bounds.rules l.judge.bounds.now) l.reads l.vars (indices (list_terms (take l.index-index l.at)))
