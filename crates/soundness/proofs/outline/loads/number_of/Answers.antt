use Rattle.std.proofs.Common.{◌∙◌, ap, ℕ, ◌+◌, ◌-◌, ◌^◌, min, get_or, refl}
use Rattle.soundness.proofs.OfOutline.Numerals.{digit_more}
use Rattle.soundness.proofs.outline.loads.number_of.Goals as goal

pub loop-digit-preserved : goal.loop-digit-preserved
loop-digit-preserved c =
    let ds = c.args.digits.now in
    let i = c.loop-digit.digit-index in
    digit_more ds i (get_or ds i 0) c.loop-digit.number c.saturating_mul.result c.saturating_add-number.result c.loop-digit-test.true refl c.loop-digit.invariant c.saturating_mul.ensures
    (c.saturating_add-number.ensures ∙ ap (λ (k : ℕ). min (c.saturating_mul.result + k) (2 ^ 64 - 1)) (c.from.ensures ∙ c.saturating_sub.ensures))
