use Rattle.std.proofs.Common.{◌<◌, ◌^◌, rules}
use Rattle.checked_plan.specs.View.{certificate_checked, plan_checked}
use Rattle.report.specs.Deeds.{deeds}
use Rattle.report.proofs.Sums.{whole_is}
use Rattle.report.proofs.costs.count_in_pieces.Goals as goal

pub returns : goal.returns
returns c =
    let x = c.args.checked.now in
    let small : c.in_ok-count.count < 2 ^ 64 = search rules in
    whole_is c.in_ok-count.count (deeds (plan_checked x) (certificate_checked x) c.args.deed c.args.function.now) small c.in_ok-count.ensures
