use Rattle.std.proofs.Common.{◌∙◌, rules, w64, SFits, to_z, of_z}
use Rattle.std.specs.Int.{int_min}
use Rattle.std.proofs.lemmas.Int.{to_z-of_z}
use Rattle.lin.specs.Forms.{Form}
use Rattle.plan.specs.Symbols.{form_value}
use Rattle.interpreter.specs.Bindings.{symbols_of}
use Rattle.interpreter.proofs.Summing.{fold_next}
use Rattle.interpreter.proofs.forms.smaller_of.Goals as goal

pub loop-form-preserved : goal.loop-form-preserved
loop-form-preserved c =
    let s = symbols_of c.args.symbols.now in
    let r_fits : SFits w64 c.min-found.result = search rules in
    let w_fits : SFits w64 c.value_of.result = search rules in
    fold_next int_min (λ (f : Form). form_value f s) (to_z w64 (of_z w64 c.args.first)) c.args.forms.now c.loop-form.form-index c.form-item.result (to_z w64 (of_z w64 c.min-found.result))
    (to_z w64 c.loop-form.found-bits) (to_z w64 (of_z w64 c.value_of.result)) c.loop-form-test.true c.form-item.is
    (to_z-of_z w64 c.min-found.result r_fits ∙ c.min-found.ensures.value) c.loop-form.invariant (to_z-of_z w64 c.value_of.result w_fits ∙ c.value_of.ensures)
