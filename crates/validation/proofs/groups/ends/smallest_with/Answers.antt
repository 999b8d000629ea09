use Rattle.std.proofs.Common.{◌≡◌, ◌∙◌, ap, drop, rules}
use Rattle.std.specs.Prelude.{ℤ, fold}
use Rattle.std.specs.Int.{int_min}
use Rattle.std.proofs.lemmas.Int.{to_z-of_z}
use Rattle.validation.proofs.Ends.{constants, folded_more, folded_all}
use Rattle.validation.proofs.groups.ends.smallest_with.Goals as goal
use mir.Syntax.{w64}
use mir.Val.{SFits, to_z, of_z}

pub loop-form-preserved : goal.loop-form-preserved
loop-form-preserved c =
    let rest = c.args.rest.now in
    let now : ℤ = to_z w64 c.loop-form.least-bits in
    let next : ℤ = to_z w64 (of_z w64 c.min-least.result) in
    let fits : SFits w64 c.min-least.result = search rules in
    let one : SFits w64 c.constant.result = search rules in
    let is : next ≡ int_min now c.form-item.result.constant = to_z-of_z w64 c.min-least.result fits ∙ c.min-least.ensures.value ∙ ap (int_min now) (to_z-of_z w64 c.constant.result one ∙ c.constant.ensures) in
    let before : fold int_min now (constants (drop c.loop-form.form-index rest)) ≡ fold int_min (to_z w64 (of_z w64 c.args.first)) (constants rest) = c.loop-form.invariant in
    folded_more int_min rest c.loop-form.form-index c.form-item.result now next c.loop-form-test.true c.form-item.is is ∙ before

pub returns : goal.returns
returns c =
    let rest = c.args.rest.now in
    let now : ℤ = to_z w64 c.loop-form.least-bits in
    let before : fold int_min now (constants (drop c.loop-form.form-index rest)) ≡ fold int_min (to_z w64 (of_z w64 c.args.first)) (constants rest) = c.loop-form.invariant in
    folded_all int_min rest c.loop-form.form-index now c.loop-form-test.false ∙ before ∙ ap (λ (z : ℤ). fold int_min z (constants rest)) (to_z-of_z w64 c.args.first c.ranges.first)
