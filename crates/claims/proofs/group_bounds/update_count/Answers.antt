use Rattle.std.proofs.Common.{rules, ◌≡◌, ◌∙◌, ap, length}
use Rattle.claims.proofs.Counts.{count_held, looked_up}
use Rattle.claims.proofs.group_bounds.update_count.Goals as goal

pub returns-in-Some : goal.returns-in-Some
returns-in-Some c =
    let count : c.len.result ≡ length c.in-Some.function.now.updates.items = search rules in
    count ∙ ap count_held c.in-Some.ensures.value ∙ looked_up c.args.functions.now.entries c.args.name.now

pub returns-in-None : goal.returns-in-None
returns-in-None c = ap count_held c.in-None.ensures.value ∙ looked_up c.args.functions.now.entries c.args.name.now
