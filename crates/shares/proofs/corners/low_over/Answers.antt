use Rattle.std.proofs.Common.{◌∙◌, rules, w64, SFits, to_z, of_z}
use Rattle.std.proofs.lemmas.Int.{to_z-of_z}
use Rattle.shares.proofs.Cornered.{low_one, low_more, some_forms}
use Rattle.shares.proofs.corners.low_over.Goals as goal

pub loop-form-init : goal.loop-form-init
loop-form-init c =
    let z = c.corner_value-found.result in
    let fits : SFits w64 z = search rules in
    low_one c.args.low.now c.args.high.now c.args.forms.now 0 c.index-forms-0.result (some_forms c.args.forms.now c.is_empty.result c.is_empty.ensures c.if-is_empty.false) c.index-forms-0.is
    (to_z w64 (of_z w64 z)) (to_z-of_z w64 z fits ∙ c.corner_value-found.ensures)

pub loop-form-preserved : goal.loop-form-preserved
loop-form-preserved c =
    let low = c.args.low.now in
    let high = c.args.high.now in
    let fs = c.args.forms.now in
    let z = c.corner_value.result in
    let m = c.max-found.result in
    let z_fits : SFits w64 z = search rules in
    let m_fits : SFits w64 m = search rules in
    low_more low high fs (to_z w64 c.loop-form.found-bits) (to_z w64 (of_z w64 z)) (to_z w64 (of_z w64 m)) (to_z-of_z w64 m m_fits ∙ c.max-found.ensures.value) c.loop-form.invariant
    (low_one low high fs c.loop-form.form-index c.form-item.result c.loop-form-test.true c.form-item.is (to_z w64 (of_z w64 z)) (to_z-of_z w64 z z_fits ∙ c.corner_value.ensures))
