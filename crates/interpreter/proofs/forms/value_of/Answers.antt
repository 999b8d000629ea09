use Rattle.std.proofs.Common.{List, sym, ap, ◌∙◌, subst, rules, w64, SFits, ℤ, ◌+ℤ◌}
use Rattle.std.specs.Int.{int_wrap}
use Rattle.lin.specs.declared.form.Multiple.{Multiple}
use Rattle.lin.specs.Forms.{sum_of}
use Rattle.interpreter.specs.Bindings.{symbols_of}
use Rattle.interpreter.proofs.Summing.{wrapped_sum, number_fits}
use Rattle.interpreter.proofs.forms.value_of.Goals as goal

pub returns : goal.returns
returns c =
    let form = c.args.form.now in
    let v = (symbols_of c.args.symbols.now).value in
    let a_fits : SFits w64 c.constant.result = search rules in
    let r_fits : SFits w64 c.sum_of.result = search rules in
    let e = c.sum_of.ensures ∙ ap (λ (ts : List Multiple). int_wrap w64 (sum_of ts v)) c.terms.ensures.value in
    let whole : SFits w64 (c.constant.result +ℤ sum_of form.terms v) = subst (λ (z : ℤ). SFits w64 (z +ℤ sum_of form.terms v)) (sym c.constant.ensures) (number_fits _ c.requires.value) in
    wrapped_sum c.constant.result c.sum_of.result (sum_of form.terms v) a_fits r_fits e whole ∙ ap (λ (z : ℤ). z +ℤ sum_of form.terms v) c.constant.ensures
