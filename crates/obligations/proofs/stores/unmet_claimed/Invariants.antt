use Rattle.std.proofs.Common.{◌≡◌, drop}
use Rattle.soundness.specs.Outline.View.{outline_in}
use Rattle.obligations.specs.Asked.{first_unmet}
use Rattle.obligations.specs.Loads.{asked_by_nests}
use Rattle.obligations.proofs.stores.unmet_claimed.Given as goal

abbrev pub invariant-loop-nest : goal.invariant-loop-nest
invariant-loop-nest g l = first_unmet (g.B.Bounds.rules l.judge.bounds.now) (g.T.NestTests.nests l.judge.tests.now) l.judge.part (asked_by_nests (outline_in l.judge.outlined.now) (g.B.Bounds.rules l.judge.bounds.now) l.reads l.places l.reads.updating.now) ≡ first_unmet (g.B.Bounds.rules l.judge.bounds.now) (g.T.NestTests.nests l.judge.tests.now) l.judge.part (asked_by_nests (outline_in l.judge.outlined.now) (g.B.Bounds.rules l.judge.bounds.now) l.reads l.places (drop l.nest-index l.reads.updating.now))
