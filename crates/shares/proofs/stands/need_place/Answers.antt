use Rattle.std.proofs.Common.{◌≡◌, ◌∙◌, ℕ, sym, ap, subst, arith, refl, get_or, Some}
use Rattle.plan.specs.declared.certificate.cert.Need.{Need}
use Rattle.shares.specs.Made.{need_place}
use Rattle.shares.proofs.Lines.{further_none, found_here, found_later, found_none}
use Rattle.shares.proofs.stands.need_place.Goals as goal

pub loop-need-init : goal.loop-need-init
loop-need-init c = record { place = refl; whole = sym (further_none (need_place c.args.all.now c.args.group)) }

pub loop-need-preserved : goal.loop-need-preserved
loop-need-preserved c =
    let xs = c.args.all.now in let k = c.loop-need.need-index in let g = c.args.group in
    let not : (get_or xs k c.need-item.result).group ≡ g → ⊥ = subst (λ (n : Need). n.group ≡ g → ⊥) c.need-item.is c.if-need-group.false in
    let place = c.loop-need.invariant.place in
    record { place = omega (arith, place); whole = c.loop-need.invariant.whole ∙ found_later xs k c.need-item.result g c.loop-need-test.true not }

pub returns-then-need-group : goal.returns-then-need-group
returns-then-need-group c =
    let xs = c.args.all.now in let k = c.loop-need.need-index in let g = c.args.group in
    let is : (get_or xs k c.need-item.result).group ≡ g = subst (λ (n : Need). n.group ≡ g) c.need-item.is c.if-need-group.true in
    sym (c.loop-need.invariant.whole ∙ found_here xs k c.need-item.result g c.loop-need-test.true is ∙ ap (λ (n : ℕ). Some n) (sym c.loop-need.invariant.place))

pub returns : goal.returns
returns c =
    let end = c.loop-need.auto.need-index-end in
    sym (c.loop-need.invariant.whole ∙ found_none c.args.all.now c.loop-need.need-index c.args.group (omega (arith, c.loop-need-test.false, end)))
