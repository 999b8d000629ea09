use Rattle.std.proofs.Common.{codes}
use Rattle.commands.specs.Line.{crop_line, plan_line, tiles_line, told}
use Rattle.commands.proofs.words.described.cut_described.Goals as goal

pub returns : goal.returns
returns c =
    let check = c.with_command-line.ensures _ (plan_line (codes "check")) c.planless_described.ensures c.plan_described-check.ensures in
    let cost = c.with_command-line-2.ensures _ (plan_line (codes "cost")) check c.plan_described-cost.ensures in
    let show = c.with_command-line-3.ensures _ (plan_line (codes "show")) cost c.plan_described-show.ensures in
    let crop = c.with_command-line-4.ensures told crop_line show c.crop_described.ensures in
    c.with_command.ensures _ tiles_line crop c.tiles_described.ensures
