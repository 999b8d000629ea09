use Rattle.std.proofs.Common.{rules, ◌≡◌, ◌∙◌, ap, length, Some}
use Rattle.sched.proofs.Named.{call_held, looked_up}
use Rattle.sched.proofs.names.function_call.Goals as goal

pub returns-in-Some : goal.returns-in-Some
returns-in-Some c =
    let count : c.len.result ≡ length c.in-Some.function.now.variables.items = search rules in
    (λ i. Some (c.in-Some.function.now.ty, count i)) ∙ ap call_held c.in-Some.ensures.value ∙ looked_up c.args.functions.now.entries c.args.name.now

pub returns-in-None : goal.returns-in-None
returns-in-None c = ap call_held c.in-None.ensures.value ∙ looked_up c.args.functions.now.entries c.args.name.now
