use Rattle.std.proofs.Common.{◌≡◌, drop}
use Rattle.plan.specs.View.{plan_of}
use Rattle.plan.specs.Certificate.Certificate.{certificate_of}
use Rattle.validation.specs.Certificate.Certificate.{groups_keep}
use Rattle.validation.proofs.certificate.window_lines.is_kept.Given as goal

-- no loop of the groups so far keeps it
abbrev pub invariant-loop-number : goal.invariant-loop-number
invariant-loop-number l =
    let p = plan_of l.plan in
    let c = certificate_of l.cert in
    groups_keep p c l.window 0 p.groups ≡ groups_keep p c l.window l.number (drop l.number p.groups)
