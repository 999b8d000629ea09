use Rattle.std.proofs.Common.{◌∙◌, ap, rules, sym, subst, ℤ, pos, w64, SFits, Bool, T}
use Rattle.std.specs.Prelude.{◌<ℤ◌}
use Rattle.std.specs.Int.Signed.{lt_z, lt_z_yes}
use Rattle.std.proofs.lemmas.Int.{to_z-of_z}
use Rattle.plan.specs.Certificate.Cells.{grid_symbols}
use Rattle.shares.specs.Across.{IsSumOf}
use Rattle.shares.proofs.Crossing.{below_sum}
use Rattle.shares.proofs.across.is_below_sum.Goals as goal

pub returns-then-most-lt0 : goal.returns-then-most-lt0
returns-then-most-lt0 c _ at between =
    let z = c.gap-most.result in
    let fits : SFits w64 z = search rules in
    let below = ap (λ (y : ℤ). lt_z y (pos 0)) (sym (to_z-of_z w64 z fits)) ∙ c.if-most-lt0.true in
    let past : z <ℤ pos 0 = lt_z_yes {a = z} {b = pos 0} (subst (λ (b : Bool). T b) (sym below) tt) in
    let sum : IsSumOf c.in-Some.sum c.args.lower.now c.args.other.now = rw c.in-Some.is at c.in_ok-sum.ensures.value in
    below_sum (grid_symbols at) c.args.upper.now c.in-Some.sum c.args.lower.now c.args.other.now z (c.gap-most.ensures at between) past sum
