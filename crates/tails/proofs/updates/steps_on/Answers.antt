use Rattle.std.proofs.Common.{◌≡◌, Bool, map, subst}
use Rattle.std.specs.Prelude.{IfOk}
use Rattle.tree.specs.Term.{term_of}
use Rattle.algo.specs.View.{algorithm_of}
use Rattle.plan.specs.View.{coordinate_of}
use Rattle.plan.specs.Certificate.Certificate.{claim_of}
use Rattle.soundness.specs.Binders.View.{binders_of}
use Rattle.soundness.specs.Nests.Laws.{domains_of}
use Rattle.soundness.specs.Outline.View.{outline_in}
use Rattle.tails.specs.View.{step_of}
use Rattle.tails.specs.Domains.{ranges_held}
use Rattle.tails.proofs.Stores.{stepped_on}
use Rattle.tails.proofs.updates.steps_on.Goals as goal

pub returns-then-branch : goal.returns-then-branch
returns-then-branch g c =
    subst (λ (x : Bool). IfOk c.is_turned.result (λ yes. yes ≡ x))
    (stepped_on (outline_in c.args.outlined.now).setting (g.B.Bounds.rules c.args.bounds.now) (domains_of (algorithm_of c.args.algo.now)) (binders_of c.args.binders.now) (claim_of c.args.claim.now) (map step_of c.args.steps.now)
    c.args.buffer c.args.definition (map coordinate_of c.args.coordinates.now) (term_of c.args.value.now) c.dimensions-count.result
    (map coordinate_of c.left_of.result.now) (map coordinate_of c.over_of-over.result.now) c.buffer_function.result.now c.as_str.result.now c.as_str-2.result.now c.same_name.result c.in_ok-is_reduced.field-0
    (ranges_held c.domain_of-domain.result) c.requires c.if-claim-definition.false c.dimensions-count.ensures c.left_of.ensures c.over_of-over.ensures c.buffer_function.ensures c.as_str.ensures.value
    c.same_name.ensures c.if-not-same_name.false c.as_str-2.ensures.value c.domain_of-domain.ensures c.in_ok-is_reduced.ensures c.if-branch.true)
    c.is_turned.ensures
