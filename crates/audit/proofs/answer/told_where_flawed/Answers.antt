use Rattle.std.proofs.Common.{ap, sym, ◌∙◌}
use Rattle.algo.specs.View.{algorithm_of}
use Rattle.plan.specs.View.{plan_of}
use Rattle.plan.specs.Certificate.Certificate.{certificate_of}
use Rattle.soundness.specs.Outline.Flaws.{told}
use Rattle.validation.specs.Groups.Lines.{flaws_of_groups}
use Rattle.audit.proofs.Told.{none_known}
use Rattle.audit.proofs.answer.told_where_flawed.Goals as goal

pub told_beside_claims-requires-clause-groups : goal.told_beside_claims-requires-clause-groups
told_beside_claims-requires-clause-groups c =
    none_known (flaws_of_groups (algorithm_of c.args.algo.now) (plan_of c.args.plan.now) (certificate_of c.args.cert.now)) c.args.named c.requires.named c.in-None.is

pub told_beside_fetches-requires-clause-broken : goal.told_beside_fetches-requires-clause-broken
told_beside_fetches-requires-clause-broken c = sym (ap told c.in-Some.is) ∙ c.requires.named
