use Rattle.std.proofs.Common.{◌≡◌, ◌∙◌, Some, None, rules}
use Rattle.std.proofs.lemmas.Int.{to_z-of_z}
use Rattle.tree.specs.Term.{Compares}
use Rattle.crop.specs.Moving.{literal}
use Rattle.crop.specs.Plan.{number_from}
use Rattle.crop.proofs.Rules.{against_told, compare_given, compare_none}
use Rattle.crop.proofs.plans.compare_from.Goals as goal
use mir.Val.{SFits}
use mir.Syntax.{w32}

pub returns-in-Some : goal.returns-in-Some
returns-in-Some c =
    let low : SFits w32 c.args.ends.low = search rules in
    let high : SFits w32 c.args.ends.high = search rules in
    let l = to_z-of_z w32 c.args.ends.low low in
    let h = to_z-of_z w32 c.args.ends.high high in
    let n = to_z-of_z w32 c.args.number c.ranges.number in
    let told : Some c.in-Some.number ≡ number_from c.args.number c.args.ends.low c.args.ends.high = c.in-Some.ensures ∙ (λ i. number_from (n i) (l i) (h i)) in
    let number = to_z-of_z w32 c.in-Some.number (search rules) in
    let first = against_told c.args.ends.low c.against.result low (search rules) c.against.ensures in
    λ by b f g. (λ i. Compares by (f (first i)) (literal (number i))) ∙ compare_given c.args.number c.args.ends by f g c.in-Some.number told

pub returns-in-None : goal.returns-in-None
returns-in-None c =
    let low : SFits w32 c.args.ends.low = search rules in
    let high : SFits w32 c.args.ends.high = search rules in
    let l = to_z-of_z w32 c.args.ends.low low in
    let h = to_z-of_z w32 c.args.ends.high high in
    let n = to_z-of_z w32 c.args.number c.ranges.number in
    let told : None ≡ number_from c.args.number c.args.ends.low c.args.ends.high = c.in-None.ensures ∙ (λ i. number_from (n i) (l i) (h i)) in
    λ by b f g. c.compare_plain.ensures by b f g ∙ compare_none c.args.number c.args.ends by f g told
