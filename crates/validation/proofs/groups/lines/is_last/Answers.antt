use Rattle.std.proofs.Common.{◌∙◌, ◌+◌, ap, sym, arith, drop, Bool}
use Rattle.std.specs.Prelude.{◌&&◌}
use Rattle.plan.specs.Plan.{block}
use Rattle.plan.specs.Lists.{list_statements}
use Rattle.validation.specs.Groups.Lines.{is_empty}
use Rattle.validation.proofs.GroupsRowed.{empty_is}
use Rattle.validation.proofs.groups.lines.is_last.Goals as goal

pub returns-then-last : goal.returns-then-last
returns-then-last c =
    empty_is c.args.all.now (c.args.k + 1) (omega (arith, c.requires))
    ∙ ap (λ (b : Bool). b && is_empty (block (list_statements (drop (c.args.k + 1) c.args.all.now)))) (sym c.if-last.true)
