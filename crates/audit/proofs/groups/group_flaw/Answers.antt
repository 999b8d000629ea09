use Rattle.std.proofs.Common.{◌∙◌, ap}
use Rattle.std.specs.Prelude.{slice_get}
use Rattle.algo.specs.View.{algorithm_of}
use Rattle.plan.specs.View.{plan_of}
use Rattle.plan.specs.Certificate.Certificate.{certificate_of}
use Rattle.soundness.specs.Outline.View.{plan_in, certificate_in, number_in, group_in}
use Rattle.audit.proofs.Told.{AreOf, group_told, line_of, same_group}
use Rattle.audit.proofs.groups.group_flaw.Goals as goal

pub returns : goal.returns
returns c g at =
    let o = c.in_ok-outlined.outlined in
    let is = c.bounds_of-bounds.ensures.outlined in
    let said = c.in_ok-outlined.ensures in
    let of : AreOf c.bounds_of-bounds.result (algorithm_of c.args.algo.now) (plan_of c.args.plan.now) (certificate_of c.args.cert.now) c.args.number g =
    record {
      algorithm = ap algorithm_of c.bounds_of-bounds.ensures.algo;
      plan = ap plan_in is ∙ said.plan;
      certificate = ap certificate_in is ∙ said.certificate;
      number = ap number_in is ∙ said.number;
      group = ap group_in is ∙ same_group (slice_get (plan_of c.args.plan.now).groups c.args.number) (group_in o) g said.group at;
    } in
    let a = algorithm_of c.args.algo.now in
    let p = plan_of c.args.plan.now in
    let cert = certificate_of c.args.cert.now in (
      group_told a p cert c.args.number g at c.bounds_of-bounds.result c.in_ok-wide.wide c.wide_flaw.result of c.in_ok-wide.ensures c.wide_flaw.ensures,
      line_of a p cert c.args.number g at c.bounds_of-bounds.result c.in_ok-wide.wide c.wide_flaw.result of c.in_ok-wide.ensures c.wide_flaw.ensures,
    )
