use Rattle.std.proofs.Common.{◌+◌, ◌*◌, ◌≤◌, List, refl, ap, ◌∙◌, arith, rules, ℤ, ◌-ℤ◌, ◌≤ℤ◌, w64, SFits}
use lib.IntN.{nat_abs}
use Rattle.std.proofs.lemmas.Int.{to_z-of_z}
use Rattle.std.specs.Prelude.{sum_by}
use Rattle.report.specs.Costs.{up_to}
use Rattle.report.specs.Weighing.{weighted}
use Rattle.report.proofs.Handing.{numbers_from, read_not_lt}
use Rattle.report.proofs.weighing.add_to.Goals as goal

pub returns : goal.returns
returns c = λ e m small g.
    let low = c.args.low in
    let ends = c.args.ends in
    let from = c.abs_diff-from.result in
    let first_fits : SFits w64 ends.low = search rules in
    let low_fits : SFits w64 low = search rules in
    let le : low ≤ℤ ends.low = read_not_lt ends.low low first_fits low_fits c.if-ends-low.false in
    let few : c.count_of-count.result ≤ 8192 = omega (arith, c.if-count-gt-MOST_VALUES.false) in
    c.add_at.ensures m low small g
    ∙ ap (λ (l : List ℤ). up_to m (weighted g low c.args.weights.now + c.args.weight * sum_by g l))
    (numbers_from low ends.low ends from c.count_of-count.result (from + c.count_of-count.result) refl le
    (c.abs_diff-from.ensures ∙ (λ j. nat_abs (to_z-of_z w64 ends.low first_fits j -ℤ to_z-of_z w64 low low_fits j))) c.count_of-count.ensures few refl)
