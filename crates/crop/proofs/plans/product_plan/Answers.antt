use Rattle.std.proofs.Common.{sym, ◌∙◌, rules}
use Rattle.numeric.specs.declared.op.Op.TheVariants.{Mul}
use Rattle.tree.specs.Term.{Binary}
use Rattle.crop.specs.Moving.{plus, product_moved}
use Rattle.crop.proofs.Rules.{against_told, product_told, added_told}
use Rattle.crop.proofs.plans.product_plan.Goals as goal

pub returns-in-Some-default : goal.returns-in-Some-default
returns-in-Some-default c =
    let s = c.args in
    let number = c.in-Some-default.number in
    let first = against_told s.first c.against.result c.ranges.first (search rules) c.against.ensures in
    let factor = product_told s.first number c.product.result c.ranges.first (search rules) (search rules) c.product.ensures in
    let more = added_told s.c c.product.result _ c.added.result c.ranges.c (search rules) factor c.added.ensures in
    λ a b f g. (λ i. plus (Binary Mul (f (first i)) b) (more i)) ∙ (λ i. product_moved s.c (sym c.in-Some-default.is-0 i) s.left s.first s.second a b f g)

pub returns-in-None-Some : goal.returns-in-None-Some
returns-in-None-Some c =
    let s = c.args in
    let number = c.in-None-Some.number in
    let second = against_told s.second c.against-in-None-Some.result c.ranges.second (search rules) c.against-in-None-Some.ensures in
    let factor = product_told number s.second c.product-in-None-Some.result (search rules) c.ranges.second (search rules) c.product-in-None-Some.ensures in
    let more = added_told s.c c.product-in-None-Some.result _ c.added-in-None-Some.result c.ranges.c (search rules) factor c.added-in-None-Some.ensures in
    λ a b f g.
    (λ i. plus (Binary Mul a (g (second i))) (more i)) ∙ (λ i. product_moved s.c (sym c.in-None-Some.is-0 i) (sym c.in-None-Some.is-1 i) s.first s.second a b f g)
