use Rattle.std.proofs.Common.{◌≡◌, neg_ℤ, ◌∙◌, arith, rules}
use Rattle.std.proofs.lemmas.Int.{ints, to_z-of_z}
use Rattle.crop.specs.Moving.{multiple_in}
use Rattle.crop.proofs.Rules.{fit_told}
use Rattle.crop.proofs.plans.divides_well.Goals as goal
use mir.Val.{SFits}
use mir.Syntax.{w32}

pub both_fit-requires : goal.both_fit-requires
both_fit-requires c =
    let near = c.multiple_in.ensures.near in
    record { small = (omega (arith, ints, near.0, near.1), omega (arith, ints, near.0, near.1)) }

pub returns : goal.returns
returns c =
    let low : SFits w32 c.args.ends.low = search rules in
    let high : SFits w32 c.args.ends.high = search rules in
    let near = c.multiple_in.ensures.near in
    let is : c.multiple_in.result ≡ multiple_in c.args.divisor c.args.first =
    c.multiple_in.ensures.value ∙ (λ i. multiple_in (to_z-of_z w32 c.args.divisor c.ranges.divisor i) (to_z-of_z w32 c.args.first c.ranges.first i)) in
    fit_told c.both_fit.result _ _ _ (neg_ℤ (multiple_in c.args.divisor c.args.first)) c.args.ends.low c.args.ends.high c.both_fit.ensures
    (omega (arith, ints, near.0, near.1, is)) (to_z-of_z w32 c.args.ends.low low) (to_z-of_z w32 c.args.ends.high high)
