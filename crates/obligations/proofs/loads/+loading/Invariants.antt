use Rattle.std.proofs.Common.{◌≡◌, drop}
use Rattle.tree.specs.Term.{indices, list_terms}
use Rattle.soundness.specs.Outline.View.{outline_in}
use Rattle.obligations.specs.Asked.{first_unmet}
use Rattle.obligations.specs.Loads.{loads_of_all_in}
use Rattle.obligations.proofs.loads.+loading.Given as goal

abbrev pub invariant-unmet_indices-loop-index : goal.invariant-unmet_indices-loop-index
invariant-unmet_indices-loop-index g l = first_unmet (g.B.Bounds.rules l.judge.bounds.now) (g.T.NestTests.nests l.judge.tests.now) l.judge.part (loads_of_all_in (outline_in l.judge.outlined.now) (g.B.Bounds.rules l.judge.bounds.now) l.reads l.vars (indices (list_terms l.at))) ≡ first_unmet (g.B.Bounds.rules l.judge.bounds.now) (g.T.NestTests.nests l.judge.tests.now) l.judge.part (loads_of_all_in (outline_in l.judge.outlined.now) (g.B.Bounds.rules l.judge.bounds.now) l.reads l.vars (indices (list_terms (drop l.index-index l.at))))
