use Rattle.std.proofs.Common.{◌∙◌, ap, rules, sym, subst, ℤ, pos, w64, SFits, List, ℕ}
use Rattle.std.specs.Prelude.{◌≤ℤ◌, int_le, IsTrue}
use Rattle.std.proofs.lemmas.Int.{to_z-of_z}
use Rattle.lin.specs.Forms.{Form, is_within_limits}
use Rattle.shares.proofs.Gapped.{kept_below_at, not_more}
use Rattle.shares.proofs.outer.is_kept_below.Goals as goal

pub gap-most-requires-clause-upper : goal.gap-most-requires-clause-upper
gap-most-requires-clause-upper c =
    subst (λ (f : Form). IsTrue (is_within_limits f)) (sym c.other-item.is) (c.requires.others c.loop-other.other-index c.other-item.result c.loop-other-test.true)

pub returns-then-most-le0 : goal.returns-then-most-le0
returns-then-most-le0 c _ at between =
    let z = c.gap-most.result in
    let fits : SFits w64 z = search rules in
    let most : z ≤ℤ pos 0 = not_more z (ap (λ (y : ℤ). int_le y (pos 0)) (sym (to_z-of_z w64 z fits)) ∙ c.if-most-le0.true) in
    kept_below_at c.args.low.now c.args.high.now c.args.form.now c.other-item.result c.args.others.now c.loop-other.other-index z c.loop-other-test.true c.other-item.is most c.gap-most.ensures at between
