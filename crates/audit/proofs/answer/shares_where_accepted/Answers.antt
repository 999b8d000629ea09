use Rattle.std.proofs.Common.{◌≡◌, [], sym, ◌∙◌}
use Rattle.soundness.specs.Outline.Refusals.Codes.{least}
use Rattle.algo.specs.View.{algorithm_of}
use Rattle.plan.specs.View.{plan_of}
use Rattle.plan.specs.Certificate.Certificate.{certificate_of}
use Rattle.validation.specs.Groups.Lines.{flaws_of_groups}
use Rattle.validation.specs.Certificate.Certificate.{flaws_of_certificate}
use Rattle.audit.specs.Stand.{AreShown, IsFlaw}
use Rattle.audit.proofs.Told.{least_told, one_told, some_of}
use Rattle.audit.proofs.answer.shares_where_accepted.Goals as goal

pub told_where_flawed-requires-clause-named : goal.told_where_flawed-requires-clause-named
told_where_flawed-requires-clause-named g c = c.in_ok-named.ensures.first

pub told_where_flawed-requires-clause-flaw : goal.told_where_flawed-requires-clause-flaw
told_where_flawed-requires-clause-flaw g c =
    let a = algorithm_of c.args.algo.now in
    let p = plan_of c.args.plan.now in
    let d = certificate_of c.args.cert.now in
    let named = c.in_ok-named.named in
    let listed = c.in_ok-listed.listed in
    let N : Type 0 = flaws_of_groups a p d ≡ [] in
    let L : Type 0 = flaws_of_certificate a p d ≡ [] in
    let both = least_told (IsFlaw a p d) named listed N L c.in_ok-named.ensures.told c.in_ok-listed.ensures in
    let first = some_of (least named listed) (N × L) (IsFlaw a p d) both c.in-Some.flaw (sym c.least.ensures ∙ c.in-Some.is) in
    one_told a p d c.in-Some.flaw c.told_first-told.result c.in_ok-owed.owed listed c.ends_unowned-unowned.result (AreShown a p d) L c.told_first-told.ensures first c.in_ok-owed.ensures c.in_ok-listed.ensures
