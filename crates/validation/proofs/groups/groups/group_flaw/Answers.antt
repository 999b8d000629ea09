use Rattle.std.proofs.Common.{◌∙◌, ap, sym}
use Rattle.algo.specs.View.{algorithm_of}
use Rattle.plan.specs.Plan.{Group}
use Rattle.plan.specs.Lists.{list_groups}
use Rattle.soundness.specs.Outline.Flaws.{first_of}
use Rattle.soundness.specs.Outline.View.{certificate_in, group_in, outline_in, plan_in}
use Rattle.validation.specs.Groups.Lines.{flaws, group_line_flaws, start}
use Rattle.validation.proofs.Walk.{first_found}
use Rattle.validation.proofs.groups.groups.group_flaw.Goals as goal

pub returns-then-is_some : goal.returns-then-is_some
returns-then-is_some c =
    let a = algorithm_of c.args.algo.now in
    let o = c.args.outlined.now in
    let g = group_in o in
    first_found c.group_line_flaw-flaw.result
    (group_line_flaws a c.args.line (list_groups c.args.earlier.now) g c.args.cells c.args.pieces)
    (flaws a (plan_in o) (certificate_in o) g (outline_in o) g.body (start c.args.line g))
    (sym c.is_some.ensures ∙ c.if-is_some.true)
    (c.group_line_flaw-flaw.ensures ∙ ap (λ (h : Group). first_of (group_line_flaws a c.args.line (list_groups c.args.earlier.now) h c.args.cells c.args.pieces)) c.group.ensures)
