use Rattle.std.proofs.Common.{◌≡◌, ◌∙◌, List, ℤ, false, rules, w64, SFits, to_z, of_z, subst, sym}
use Rattle.std.specs.Prelude.{int_le}
use Rattle.std.proofs.lemmas.Int.{to_z-of_z}
use Rattle.lin.specs.Forms.{Form}
use Rattle.shares.proofs.Cornered.{IsLow, IsHigh, le_false, no_number}
use Rattle.shares.proofs.corners.may_have_number.Goals as goal

pub returns : goal.returns
returns c e at between =
    let low = c.args.low.now in
    let high = c.args.high.now in
    let a = c.low_over.result in
    let b = c.high_over.result in
    let a_fits : SFits w64 a = search rules in
    let b_fits : SFits w64 b = search rules in
    let past : int_le a b ≡ false = (λ i. int_le (sym (to_z-of_z w64 a a_fits) i) (sym (to_z-of_z w64 b b_fits) i)) ∙ e in
    no_number low high c.args.span.now a b (le_false a b past) (subst (λ (fs : List Form). IsLow low high fs a) c.as_slice.ensures c.low_over.ensures)
    (subst (λ (fs : List Form). IsHigh low high fs b) c.as_slice-2.ensures c.high_over.ensures) at between
