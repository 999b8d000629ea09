use Rattle.std.proofs.Common.{◌≡◌, take, map}
use Rattle.std.specs.Prelude.{filter, flat_map}
use Rattle.plan.specs.View.{statement_of}
use Rattle.soundness.specs.Claims.{updates}
use Rattle.soundness.specs.Obligations.{follows}
use Rattle.soundness.specs.Outline.View.{outline_in}
use Rattle.obligations.specs.Context.Around.{nest_of}
use Rattle.obligations.proofs.context.known.nests_of.Given as goal

abbrev pub invariant-loop-claim : goal.invariant-loop-claim
invariant-loop-claim g l = map nest_of l.nests.items ≡ flat_map (λ c. map (λ d. record { before = d; next = c }) (filter (λ d. follows (outline_in l.judge.outlined.now) (g.B.Bounds.rules l.judge.bounds.now) d c) l.own)) (filter (λ c. updates (outline_in l.judge.outlined.now).setting (statement_of l.stmt) ((outline_in l.judge.outlined.now).claim c).buffer ((outline_in l.judge.outlined.now).claim c).function) (take l.claim-index l.next))
