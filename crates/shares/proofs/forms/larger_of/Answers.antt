use Rattle.std.proofs.Common.{◌∙◌, rules, w64, SFits, to_z, of_z, ◌^◌, sym, subst}
use Rattle.std.specs.Int.{int_max}
use Rattle.std.proofs.lemmas.Int.{to_z-of_z}
use Rattle.lin.specs.Forms.{Form, IsWithin}
use Rattle.plan.specs.Symbols.{form_value}
use Rattle.shares.specs.Lets.{symbols_at}
use Rattle.shares.proofs.Summing.{fold_next}
use Rattle.shares.proofs.Values.{larger_small}
use Rattle.shares.proofs.forms.larger_of.Goals as goal

pub loop-form-preserved : goal.loop-form-preserved
loop-form-preserved c =
    let s = symbols_at c.args.at.now c.args.lets.now in
    let r_fits : SFits w64 c.max-found.result = search rules in
    let w_fits : SFits w64 c.value_of.result = search rules in
    let f_fits : SFits w64 (to_z w64 c.loop-form.found-bits) = search rules in
    let is = to_z-of_z w64 c.max-found.result r_fits ∙ c.max-found.ensures.value in
    let v = to_z-of_z w64 c.value_of.result w_fits in
    let known = subst (IsWithin (2 ^ 44)) (sym v) c.value_of.ensures.small in
    record {
      value = fold_next int_max (λ (f : Form). form_value f s) (to_z w64 (of_z w64 c.args.first)) c.args.forms.now c.loop-form.form-index c.form-item.result (to_z w64 (of_z w64 c.max-found.result))
          (to_z w64 c.loop-form.found-bits) (to_z w64 (of_z w64 c.value_of.result)) c.loop-form-test.true c.form-item.is is c.loop-form.invariant.value (v ∙ c.value_of.ensures.value);
      small = subst (IsWithin (2 ^ 44)) (sym is) (larger_small (to_z w64 c.loop-form.found-bits) (to_z w64 (of_z w64 c.value_of.result)) c.loop-form.invariant.small known);
    }
