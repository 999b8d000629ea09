use Rattle.std.proofs.Common.{◌∙◌, List, ap, arith}
use Rattle.plan.specs.declared.certificate.cert.Own.{Own}
use Rattle.shares.specs.Made.{own_place}
use Rattle.shares.proofs.stands.own_line.Goals as goal

pub returns : goal.returns
returns c =
    let place = c.own_place-place.ensures ∙ ap (λ (os : List Own). own_place os c.args.group) c.deref.ensures.value in
    let begun = c.certificate_line.ensures in
    let line = c.own_line.ensures in
    omega (arith, place, begun, line)
