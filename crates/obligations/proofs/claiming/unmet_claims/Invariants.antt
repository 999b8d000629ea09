use Rattle.std.proofs.Common.{◌≡◌, drop, []}
use Rattle.std.specs.Prelude.{flat_map}
use Rattle.plan.specs.View.{statement_of}
use Rattle.soundness.specs.Obligations.{claim_obligations}
use Rattle.soundness.specs.Outline.View.{outline_in}
use Rattle.obligations.specs.Asked.{first_unmet}
use Rattle.obligations.specs.Context.Around.{known_of, windows_of}
use Rattle.obligations.proofs.claiming.unmet_claims.Given as goal

abbrev pub invariant-loop-claim : goal.invariant-loop-claim
invariant-loop-claim g l = first_unmet (g.B.Bounds.rules l.judge.bounds.now) (g.T.NestTests.nests l.judge.tests.now) l.judge.part (flat_map (claim_obligations (outline_in l.judge.outlined.now) (g.B.Bounds.rules l.judge.bounds.now) (windows_of l.kept) l.begin l.last (known_of l.known []) (statement_of l.stmt)) l.next) ≡ first_unmet (g.B.Bounds.rules l.judge.bounds.now) (g.T.NestTests.nests l.judge.tests.now) l.judge.part (flat_map (claim_obligations (outline_in l.judge.outlined.now) (g.B.Bounds.rules l.judge.bounds.now) (windows_of l.kept) l.begin l.last (known_of l.known []) (statement_of l.stmt)) (drop l.claim-index l.next))
