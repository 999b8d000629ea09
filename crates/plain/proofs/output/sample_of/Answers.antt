use Rattle.std.proofs.Common.{◌≡◌, ◌<◌, ◌≤◌, ◌^◌, ℤ, pos, length, sym, ap, ◌∙◌, subst, rules}
use Rattle.std.specs.Prelude.{IfSome}
use Rattle.std.proofs.lemmas.Int.{to_z-of_z}
use Rattle.algo.specs.View.{algorithm_of, picture_of, samples_of}
use Rattle.meaning.specs.Image.Raster.{natural}
use Rattle.meaning.specs.Count.{output_count}
use Rattle.plain.proofs.Outputs.{at, fits, coordinate_count, same_value, same_count, output_sample, passed_on}
use Rattle.plain.proofs.Scoped.{are_samples}
use Rattle.plain.proofs.output.sample_of.Goals as goal
use mir.Syntax.{w16, w64}
use mir.Val.{Fits, SFits}
use lib.Dec.{T}
use lib.IntN.{nat_abs}
use lib.Signed.{non_neg}

pub value-requires-clause-at : goal.value-requires-clause-at
value-requires-clause-at c =
    let o = c.args.output.now in
    let a = algorithm_of o.algo.now in
    let w = o.algo.now.well_formed in
    subst (λ f. IfSome f (λ f. length c.args.at.now ≡ length f.variables)) (sym (at a w o.function o.output))
    (coordinate_count a.output_extents c.args.at.now c.requires ∙ (fits a w o.function o.output).indexed)

pub returns-in_err-sample-clause-spent : goal.returns-in_err-sample-clause-spent
returns-in_err-sample-clause-spent c =
    let o = c.args.output.now in
    let a = algorithm_of o.algo.now in
    let s = samples_of o.inputs.now in
    let w = o.algo.now.well_formed in
    let p = c.args.at.now in
    let e = c.in_err-sample.field-0.0 in
    let count = same_count a w o.function o.output s p in
    passed_on _ e (o.budget < output_count a s p) c.from_residual.ensures.1 (λ m. subst (λ n. o.budget < n) count (c.in_err-sample.ensures.spent m))

pub overflow_cast-result : goal.overflow_cast-result
overflow_cast-result c =
    let o = c.args.output.now in
    let a = algorithm_of o.algo.now in
    let s = samples_of o.inputs.now in
    let w = o.algo.now.well_formed in
    let p = c.args.at.now in
    let sample = output_sample a w o.function o.output s p (are_samples a (picture_of o.inputs.now) w o.input) c.requires in
    let value : c.in_ok-sample.sample ≡ pos sample.number = c.in_ok-sample.ensures.value.0 ∙ sym (same_value a w o.function o.output s p) ∙ sample.is in
    let fits : SFits w64 c.in_ok-sample.sample = search rules in
    let small : sample.number < 2 ^ 16 = sample.small in
    let P : ℤ → Type 0 = λ z. T (non_neg z) × Fits w16 (nat_abs z) in
    subst P (sym (to_z-of_z w64 c.in_ok-sample.sample fits ∙ value)) (tt, search (rules, small))

pub returns-clause-sample : goal.returns-clause-sample
returns-clause-sample c =
    let o = c.args.output.now in
    let a = algorithm_of o.algo.now in
    let s = samples_of o.inputs.now in
    let w = o.algo.now.well_formed in
    let p = c.args.at.now in
    let sample = output_sample a w o.function o.output s p (are_samples a (picture_of o.inputs.now) w o.input) c.requires in
    let value : c.in_ok-sample.sample ≡ pos sample.number = c.in_ok-sample.ensures.value.0 ∙ sym (same_value a w o.function o.output s p) ∙ sample.is in
    let fits : SFits w64 c.in_ok-sample.sample = search rules in
    (ap nat_abs (to_z-of_z w64 c.in_ok-sample.sample fits ∙ value) ∙ sym (ap natural sample.is), subst (λ n. n ≤ o.budget) (same_count a w o.function o.output s p) c.in_ok-sample.ensures.value.1)
