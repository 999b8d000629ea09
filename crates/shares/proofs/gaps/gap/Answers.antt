use Rattle.std.proofs.Common.{◌≡◌, ◌∙◌, sym, subst, ℤ, List, ◌+◌, ◌*◌, ◌≤◌, ◌^◌, length, to_z, of_z, w64}
use Rattle.std.specs.Prelude.{◌-ℤ◌, ◌+ℤ◌}
use Rattle.lin.specs.declared.form.Multiple.{Multiple}
use Rattle.lin.specs.Forms.{AreWithin, IsWithin}
use Rattle.lin.proofs.Limits.{within_limits-constant, within_limits-few, within_limits-terms}
use Rattle.shares.specs.Gaps.{AreBelow}
use Rattle.shares.proofs.Gapped.{apart_bits, apart_fits, apart_within, form_gap, rest_bits, rest_fits, terms_small}
use Rattle.shares.proofs.gaps.gap.Goals as goal

pub gap_sum-more-requires-clause-upper : goal.gap_sum-more-requires-clause-upper
gap_sum-more-requires-clause-upper c = subst (AreWithin (2 ^ 20)) (sym c.terms.ensures.value) (within_limits-terms c.args.upper.now c.requires.upper)

pub gap_sum-more-requires-clause-lower : goal.gap_sum-more-requires-clause-lower
gap_sum-more-requires-clause-lower c = subst (AreWithin (2 ^ 20)) (sym c.terms-2.ensures.value) (within_limits-terms c.args.lower.now c.requires.lower)

pub overflow_sub-apart : goal.overflow_sub-apart
overflow_sub-apart c =
    apart_fits c.constant.result c.constant-2.result (subst (IsWithin (2 ^ 40)) (sym c.constant.ensures) (within_limits-constant c.args.upper.now c.requires.upper))
    (subst (IsWithin (2 ^ 40)) (sym c.constant-2.ensures) (within_limits-constant c.args.lower.now c.requires.lower))

pub overflow_add-result : goal.overflow_add-result
overflow_add-result c =
    let a = c.constant.result in
    let b = c.constant-2.result in
    let h : IsWithin (2 ^ 40) a = subst (IsWithin (2 ^ 40)) (sym c.constant.ensures) (within_limits-constant c.args.upper.now c.requires.upper) in
    let k : IsWithin (2 ^ 40) b = subst (IsWithin (2 ^ 40)) (sym c.constant-2.ensures) (within_limits-constant c.args.lower.now c.requires.lower) in
    let us = c.terms.result.now in
    let ls = c.terms-2.result.now in
    let m = subst (λ (ts : List Multiple). length ts ≤ 8) (sym c.terms.ensures.value) (within_limits-few c.args.upper.now c.requires.upper) in
    let n = subst (λ (ts : List Multiple). length ts ≤ 8) (sym c.terms-2.ensures.value) (within_limits-few c.args.lower.now c.requires.lower) in
    rest_fits (to_z w64 (of_z w64 (to_z w64 (of_z w64 a) -ℤ to_z w64 (of_z w64 b)))) (a -ℤ b) c.gap_sum-more.result (apart_bits a b h k) (apart_within a b h k)
    (terms_small us ls c.gap_sum-more.result m n c.gap_sum-more.ensures.small)

pub returns : goal.returns
returns c =
    let a = c.constant.result in
    let b = c.constant-2.result in
    let h : IsWithin (2 ^ 40) a = subst (IsWithin (2 ^ 40)) (sym c.constant.ensures) (within_limits-constant c.args.upper.now c.requires.upper) in
    let k : IsWithin (2 ^ 40) b = subst (IsWithin (2 ^ 40)) (sym c.constant-2.ensures) (within_limits-constant c.args.lower.now c.requires.lower) in
    let us = c.terms.result.now in
    let ls = c.terms-2.result.now in
    let m = subst (λ (ts : List Multiple). length ts ≤ 8) (sym c.terms.ensures.value) (within_limits-few c.args.upper.now c.requires.upper) in
    let n = subst (λ (ts : List Multiple). length ts ≤ 8) (sym c.terms-2.ensures.value) (within_limits-few c.args.lower.now c.requires.lower) in
    let r = c.gap_sum-more.result in
    let bits = rest_bits (to_z w64 (of_z w64 (to_z w64 (of_z w64 a) -ℤ to_z w64 (of_z w64 b)))) (a -ℤ b) r (apart_bits a b h k) (apart_within a b h k) (terms_small us ls r m n c.gap_sum-more.ensures.small) in
    let low = c.args.low.now in
    let high = c.args.high.now in
    let below : AreBelow low high c.args.upper.now.terms c.args.lower.now.terms r =
    subst (λ (ts : List Multiple). AreBelow low high ts c.args.lower.now.terms r) c.terms.ensures.value (subst (λ (ts : List Multiple). AreBelow low high us ts r) c.terms-2.ensures.value c.gap_sum-more.ensures.below) in
    form_gap low high c.args.upper.now c.args.lower.now r _ below (bits ∙ (λ i. (c.constant.ensures i -ℤ c.constant-2.ensures i) +ℤ r))
