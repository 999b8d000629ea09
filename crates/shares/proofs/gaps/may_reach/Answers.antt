use Rattle.std.proofs.Common.{◌∙◌, ap, rules, sym, subst, ℤ, pos, w64, SFits, Bool, T}
use Rattle.std.specs.Prelude.{◌<ℤ◌}
use Rattle.std.specs.Int.Signed.{lt_z, lt_z_yes}
use Rattle.std.proofs.lemmas.Int.{to_z-of_z}
use Rattle.shares.proofs.Gapped.{never_reaches}
use Rattle.shares.proofs.gaps.may_reach.Goals as goal

pub returns-then-most-lt0 : goal.returns-then-most-lt0
returns-then-most-lt0 c _ at between =
    let z = c.gap-most.result in
    let fits : SFits w64 z = search rules in
    let below = ap (λ (y : ℤ). lt_z y (pos 0)) (sym (to_z-of_z w64 z fits)) ∙ c.if-most-lt0.true in
    let past : z <ℤ pos 0 = lt_z_yes {a = z} {b = pos 0} (subst (λ (b : Bool). T b) (sym below) tt) in
    let ls = c.args.lowers.now in
    let d = c.index-lowers-place.result in
    let test = c.loop-place-test.true in
    never_reaches c.args.low.now c.args.high.now c.args.upper.now d ls c.loop-place.place z test c.index-lowers-place.is c.gap-most.ensures past at between
