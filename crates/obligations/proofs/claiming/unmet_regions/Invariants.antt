use Rattle.std.proofs.Common.{◌≡◌, drop}
use Rattle.soundness.specs.Outline.View.{outline_in}
use Rattle.obligations.specs.Asked.{first_unmet}
use Rattle.obligations.specs.Around.{asked_by_claims}
use Rattle.obligations.proofs.claiming.unmet_regions.Given as goal

abbrev pub invariant-loop-before : goal.invariant-loop-before
invariant-loop-before g l = first_unmet (g.B.Bounds.rules l.judge.bounds.now) (g.T.NestTests.nests l.judge.tests.now) l.judge.part (asked_by_claims (outline_in l.judge.outlined.now) (g.B.Bounds.rules l.judge.bounds.now) l.known l.claim l.own) ≡ first_unmet (g.B.Bounds.rules l.judge.bounds.now) (g.T.NestTests.nests l.judge.tests.now) l.judge.part (asked_by_claims (outline_in l.judge.outlined.now) (g.B.Bounds.rules l.judge.bounds.now) l.known l.claim (drop l.before-index l.own))
