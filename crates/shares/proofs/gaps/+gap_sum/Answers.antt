use Rattle.std.proofs.Common.{◌≡◌, ◌∙◌, ap, sym, subst, ℤ, ◌*ℤ◌, ◌^◌, length, drop, ◌+◌, ◌*◌, to_z, of_z, w64, ◌-◌, List, take}
use Rattle.std.specs.Prelude.{◌-ℤ◌, ◌≤ℤ◌}
use Rattle.lin.specs.Forms.{IsWithin, sum_of}
use Rattle.lin.proofs.Machine.{product_within}
use Rattle.plan.specs.Certificate.Cells.{grid_symbols}
use Rattle.lin.specs.declared.form.Multiple.{Multiple}
use Rattle.shares.specs.Gaps.{AreBelow}
use Rattle.shares.specs.declared.gaps.Lead.{Lead}
use Rattle.shares.proofs.Gapped.{gap_next, most_bits, most_fits, rest_bits, rest_fits, rest_small, rest_whole, sum_small}
use Rattle.shares.proofs.gaps.+gap_sum.Goals as goal

small_rest : (us ls : List Multiple) (d : Lead) (r : ℤ) → IsWithin ((length (take (length us - d.upper) (drop d.upper us)) + length (take (length ls - d.lower) (drop d.lower ls))) * 2 ^ 41) r →
    IsWithin ((length (drop d.upper us) + length (drop d.lower ls)) * 2 ^ 41) r
small_rest us ls d r h =
    subst (λ (xs : List Multiple). IsWithin ((length xs + length (drop d.lower ls)) * 2 ^ 41) r) (rest_whole d.upper us)
    (subst (λ (ys : List Multiple). IsWithin ((length (take (length us - d.upper) (drop d.upper us)) + length ys) * 2 ^ 41) r) (rest_whole d.lower ls) h)

pub overflow_mul-most : goal.overflow_mul-most
overflow_mul-most t c = most_fits c.leading-first.result.term.factor c.end_value.result c.leading-first.ensures.small c.end_value.ensures.small

pub overflow_add-result : goal.overflow_add-result
overflow_add-result t c =
    let d = c.leading-first.result in
    let e = c.end_value.result in
    let r = c.gap_sum-rest.result in
    rest_fits (to_z w64 (of_z w64 (to_z w64 (of_z w64 d.term.factor) *ℤ to_z w64 (of_z w64 e)))) (d.term.factor *ℤ e) r
    (most_bits d.term.factor e c.leading-first.ensures.small c.end_value.ensures.small)
    (product_within (2 ^ 21) (2 ^ 20) d.term.factor e c.leading-first.ensures.small c.end_value.ensures.small)
    (rest_small c.args.upper.now c.args.lower.now d c.leading-first.ensures r c.requires.few (small_rest c.args.upper.now c.args.lower.now d r c.gap_sum-rest.ensures.small))

pub returns-clause-below : goal.returns-clause-below
returns-clause-below t c at between =
    let us = c.args.upper.now in
    let ls = c.args.lower.now in
    let d = c.leading-first.result in
    let e = c.end_value.result in
    let r = c.gap_sum-rest.result in
    let bits = rest_bits (to_z w64 (of_z w64 (to_z w64 (of_z w64 d.term.factor) *ℤ to_z w64 (of_z w64 e)))) (d.term.factor *ℤ e) r
    (most_bits d.term.factor e c.leading-first.ensures.small c.end_value.ensures.small)
    (product_within (2 ^ 21) (2 ^ 20) d.term.factor e c.leading-first.ensures.small c.end_value.ensures.small)
    (rest_small us ls d c.leading-first.ensures r c.requires.few (small_rest us ls d r c.gap_sum-rest.ensures.small)) in
    let is = ap (λ (z : ℤ). d.term.factor *ℤ z) c.end_value.ensures.value in
    let v = (grid_symbols at).value in
    let low = c.args.low.now in
    let high = c.args.high.now in
    let below : AreBelow low high (drop d.upper us) (drop d.lower ls) r =
    subst (λ (xs : List Multiple). AreBelow low high xs (drop d.lower ls) r) (rest_whole d.upper us)
    (subst (λ (ys : List Multiple). AreBelow low high (take (length us - d.upper) (drop d.upper us)) ys r) (rest_whole d.lower ls) c.gap_sum-rest.ensures.below) in
    subst (λ (z : ℤ). (sum_of us v -ℤ sum_of ls v) ≤ℤ z) (sym bits) (gap_next low high us ls d (d.term.factor *ℤ e) r c.leading-first.ensures is below at between)

pub returns-clause-small : goal.returns-clause-small
returns-clause-small t c =
    let us = c.args.upper.now in
    let ls = c.args.lower.now in
    let d = c.leading-first.result in
    let e = c.end_value.result in
    let r = c.gap_sum-rest.result in
    let product = product_within (2 ^ 21) (2 ^ 20) d.term.factor e c.leading-first.ensures.small c.end_value.ensures.small in
    let bits = rest_bits (to_z w64 (of_z w64 (to_z w64 (of_z w64 d.term.factor) *ℤ to_z w64 (of_z w64 e)))) (d.term.factor *ℤ e) r
    (most_bits d.term.factor e c.leading-first.ensures.small c.end_value.ensures.small) product
    (rest_small us ls d c.leading-first.ensures r c.requires.few (small_rest us ls d r c.gap_sum-rest.ensures.small)) in
    subst (IsWithin ((length us + length ls) * 2 ^ 41)) (sym bits) (sum_small us ls d c.leading-first.ensures (d.term.factor *ℤ e) r product (small_rest us ls d r c.gap_sum-rest.ensures.small))
