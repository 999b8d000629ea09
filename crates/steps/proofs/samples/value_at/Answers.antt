use Rattle.std.proofs.Common.{◌≡◌, ◌<◌, ◌^◌, Some, ℤ, pos, sym, ap, ◌∙◌, subst, rules}
use Rattle.std.proofs.lemmas.Int.{to_z-of_z}
use Rattle.std.proofs.lemmas.Option.{same_Some}
use Rattle.algo.specs.View.{picture_of, samples_of}
use Rattle.checked_plan.specs.View.{algorithm_checked}
use Rattle.headline.proofs.Samples.{inputs_are_samples}
use Rattle.meaning.specs.Image.Raster.{natural}
use Rattle.meaning.specs.Value.{output_value}
use Rattle.steps.proofs.Accepted.{held}
use Rattle.steps.proofs.Outputs.{output_sample}
use Rattle.steps.proofs.samples.value_at.Goals as goal
use mir.Syntax.{w16, w64}
use mir.Val.{Fits, SFits}
use lib.Dec.{T}
use lib.IntN.{nat_abs}
use lib.Signed.{non_neg}

pub overflow_cast-result : goal.overflow_cast-result
overflow_cast-result c =
    let y = c.args.job.now.checked.now in
    let i = c.args.job.now.inputs.now in
    let a = algorithm_checked y in
    let at = c.args.at.now in
    let w = y.algo.now.well_formed in
    let given = inputs_are_samples a (picture_of i) w c.args.job.now.input in
    let is = held c.args.cells.now.checked.now y i c.args.state.now.table at c.cell_of.result (Some c.in-Some.value) c.requires.cells c.cell_of.ensures.holds c.cell_of.ensures.number c.requires.complete given c.in-Some.ensures in
    let sample = output_sample a (samples_of i) at w given c.requires.within in
    let value : c.in-Some.value ≡ pos sample.number = same_Some c.in-Some.value (output_value a (samples_of i) at) is ∙ sample.is in
    let fits : SFits w64 c.in-Some.value = search rules in
    let small : sample.number < 2 ^ 16 = sample.small in
    let P : ℤ → Type 0 = λ z. T (non_neg z) × Fits w16 (nat_abs z) in
    subst P (sym (to_z-of_z w64 c.in-Some.value fits ∙ value)) (tt, search (rules, small))

pub returns : goal.returns
returns c =
    let y = c.args.job.now.checked.now in
    let i = c.args.job.now.inputs.now in
    let a = algorithm_checked y in
    let at = c.args.at.now in
    let w = y.algo.now.well_formed in
    let given = inputs_are_samples a (picture_of i) w c.args.job.now.input in
    let is = held c.args.cells.now.checked.now y i c.args.state.now.table at c.cell_of.result (Some c.in-Some.value) c.requires.cells c.cell_of.ensures.holds c.cell_of.ensures.number c.requires.complete given c.in-Some.ensures in
    let sample = output_sample a (samples_of i) at w given c.requires.within in
    let value : c.in-Some.value ≡ pos sample.number = same_Some c.in-Some.value (output_value a (samples_of i) at) is ∙ sample.is in
    let fits : SFits w64 c.in-Some.value = search rules in
    ap nat_abs (to_z-of_z w64 c.in-Some.value fits ∙ value) ∙ sym (ap natural sample.is)
