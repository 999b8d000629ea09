use Rattle.std.proofs.Common.{◌≡◌, subst, arith, get_or}
use Rattle.plan.specs.declared.certificate.cert.Own.{Own}
use Rattle.shares.proofs.Lines.{place_here, place_later, no_place}
use Rattle.shares.proofs.stands.own_place.Goals as goal

pub loop-own-preserved : goal.loop-own-preserved
loop-own-preserved c =
    let xs = c.args.all.now in let k = c.loop-own.own-index in let g = c.args.group in
    let not : (get_or xs k c.own-item.result).group ≡ g → ⊥ = subst (λ (o : Own). o.group ≡ g → ⊥) c.own-item.is c.if-own-group.false in
    let next = place_later xs k c.own-item.result g c.loop-own-test.true not in
    let place = c.loop-own.invariant.place in
    let whole = c.loop-own.invariant.whole in
    record { place = omega (arith, place); whole = omega (arith, whole, next) }

pub returns-then-own-group : goal.returns-then-own-group
returns-then-own-group c =
    let xs = c.args.all.now in let k = c.loop-own.own-index in let g = c.args.group in
    let is : (get_or xs k c.own-item.result).group ≡ g = subst (λ (o : Own). o.group ≡ g) c.own-item.is c.if-own-group.true in
    let here = place_here xs k c.own-item.result g c.loop-own-test.true is in
    let place = c.loop-own.invariant.place in
    let whole = c.loop-own.invariant.whole in
    omega (arith, here, place, whole)

pub returns : goal.returns
returns c =
    let end = c.loop-own.auto.own-index-end in
    let none = no_place c.args.all.now c.loop-own.own-index c.args.group (omega (arith, c.loop-own-test.false, end)) in
    let place = c.loop-own.invariant.place in
    let whole = c.loop-own.invariant.whole in
    omega (arith, none, place, whole)
