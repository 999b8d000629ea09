use Rattle.std.proofs.Common.{◌∙◌, sym, subst}
use Rattle.std.specs.List.{AllByRecursion}
use Rattle.std.proofs.lemmas.Bool.{false≢true}
use Rattle.algo.specs.View.{algorithm_of}
use Rattle.plan.specs.View.{plan_of, group_of}
use Rattle.plan.specs.Certificate.Certificate.{certificate_of}
use Rattle.headline.specs.Numbers.{HaveEnds}
use Rattle.checked_plan.specs.Ready.Ready.{IsSmallSpan}
use Rattle.soundness.specs.declared.outline.refusals.code.K.TheVariants.{K10}
use Rattle.audit.proofs.OutputGroup.{held_at, held_function, has_same, output_lacks, output_there}
use Rattle.audit.proofs.shared.output_flaw.Goals as goal

pub has_extents-requires : goal.has_extents-requires
has_extents-requires c =
    let a = algorithm_of c.args.algo.now in
    let p = plan_of c.args.plan.now in
    let d = certificate_of c.args.cert.now in
    let x = c.index-group.result.now in
    let at = held_at c.args.plan.now.groups.items c.args.number x a.output c.requires.number c.index-group.ensures in
    record {
      region = subst (AllByRecursion IsSmallSpan) (sym c.as_slice.ensures) (c.regions_are_small.ensures a p d c.requires.named c.args.number (group_of x) at);
      ends = subst HaveEnds (sym c.as_slice.ensures) ((c.groups_are_apart.ensures a p d c.requires.named).ends c.args.number (group_of x) at);
      extents = c.output_extents.ensures.positive;
    }

pub returns-then-has_extents : goal.returns-then-has_extents
returns-then-has_extents c =
    let a = algorithm_of c.args.algo.now in
    let xs = c.args.plan.now.groups.items in
    let x = c.index-group.result.now in
    output_there (plan_of c.args.plan.now) c.args.number (group_of x) (held_at xs c.args.number x a.output c.requires.number c.index-group.ensures) a
    (held_function xs c.args.number x a.output c.requires.number c.index-group.ensures)
    (has_same c.output_extents.result.now a.output_extents c.as_slice.result.now x.region c.output_extents.ensures.extents c.as_slice.ensures (c.has_extents.ensures.0 c.if-has_extents.true))

pub returns : goal.returns
returns c =
    let a = algorithm_of c.args.algo.now in
    let xs = c.args.plan.now.groups.items in
    let x = c.index-group.result.now in
    output_lacks (plan_of c.args.plan.now) c.args.number (group_of x) (held_at xs c.args.number x a.output c.requires.number c.index-group.ensures) a
    (held_function xs c.args.number x a.output c.requires.number c.index-group.ensures)
    (certificate_of c.args.cert.now) (record { code = K10; line = c.own_line.result }) (λ i. record { code = K10; line = c.own_line.ensures i })
    (λ all. false≢true (sym c.if-has_extents.false ∙ c.has_extents.ensures.1 (has_same a.output_extents c.output_extents.result.now x.region c.as_slice.result.now (sym c.output_extents.ensures.extents) (sym c.as_slice.ensures) all)))
