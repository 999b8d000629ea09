use Rattle.std.proofs.Common.{◌∙◌, ◌-◌, ◌^◌, min, ap, sym}
use Rattle.std.specs.Prelude.{slice_get}
use Rattle.algo.specs.View.{algorithm_of}
use Rattle.plan.specs.Lines.{certificate_line}
use Rattle.plan.specs.Plan.{Plan}
use Rattle.plan.specs.View.{plan_of}
use Rattle.plan.specs.Certificate.Certificate.{certificate_of}
use Rattle.soundness.specs.Outline.View.{plan_in, certificate_in, number_in, group_in}
use Rattle.claims.proofs.Firsts.{AreOf, unmet_moved, first_moved, same_group}
use Rattle.claims.proofs.group.first_with.Goals as goal

pub of-requires : goal.of-requires
of-requires c = c.args.asked.line_is ∙ ap (λ (p : Plan). min (certificate_line p) (2 ^ 32 - 1)) (sym c.in_ok-outlined.ensures.plan)

pub returns-in_default : goal.returns-in_default
returns-in_default c = λ g at.
    let o = c.in_ok-outlined.outlined in
    let b = c.in_ok-bounds.bounds in
    let is = c.in_ok-bounds.ensures.outlined in
    let said = c.in_ok-outlined.ensures in
    let of : AreOf b.bounds (algorithm_of c.args.asked.algo.now) (plan_of c.args.asked.plan.now) (certificate_of c.args.asked.cert.now) c.args.number g =
    record {
      algorithm = ap algorithm_of c.in_ok-bounds.ensures.algo;
      plan = ap plan_in is ∙ said.plan;
      certificate = ap certificate_in is ∙ said.certificate;
      number = ap number_in is ∙ said.number;
      group = ap group_in is ∙ same_group (slice_get (plan_of c.args.asked.plan.now).groups c.args.number) (group_in o) g said.group at;
    } in
    sym (unmet_moved b.bounds (algorithm_of c.args.asked.algo.now) (plan_of c.args.asked.plan.now) (certificate_of c.args.asked.cert.now) c.args.number g of c.args.part) ∙ sym c.in_ok-unmet.ensures ∙ c.in_default.is

pub returns : goal.returns
returns c = λ g at.
    let o = c.in_ok-outlined.outlined in
    let b = c.in_ok-bounds.bounds in
    let is = c.in_ok-bounds.ensures.outlined in
    let said = c.in_ok-outlined.ensures in
    let of : AreOf b.bounds (algorithm_of c.args.asked.algo.now) (plan_of c.args.asked.plan.now) (certificate_of c.args.asked.cert.now) c.args.number g =
    record {
      algorithm = ap algorithm_of c.in_ok-bounds.ensures.algo;
      plan = ap plan_in is ∙ said.plan;
      certificate = ap certificate_in is ∙ said.certificate;
      number = ap number_in is ∙ said.number;
      group = ap group_in is ∙ same_group (slice_get (plan_of c.args.asked.plan.now).groups c.args.number) (group_in o) g said.group at;
    } in
    first_moved b.bounds (algorithm_of c.args.asked.algo.now) (plan_of c.args.asked.plan.now) (certificate_of c.args.asked.cert.now) c.args.number g of c.in_ok-first.first c.in_ok-first.ensures
