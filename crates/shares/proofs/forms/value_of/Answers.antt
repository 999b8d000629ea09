use Rattle.std.proofs.Common.{List, sym, ap, ◌∙◌, subst, rules, w64, SFits, ℤ, ◌+ℤ◌, ◌^◌, lit<}
use Rattle.std.specs.Int.{int_wrap}
use Rattle.lin.specs.declared.form.Multiple.{Multiple}
use Rattle.lin.specs.Forms.{sum_of, IsWithin}
use Rattle.lin.proofs.Machine.{within_fits}
use Rattle.shares.specs.Lets.{symbols_at}
use Rattle.plan.specs.Symbols.{form_value}
use Rattle.shares.proofs.Values.{form_small}
use Rattle.shares.proofs.Summing.{wrapped_sum}
use Rattle.shares.proofs.forms.value_of.Goals as goal

pub returns-clause-value : goal.returns-clause-value
returns-clause-value c =
    let form = c.args.form.now in
    let v = (symbols_at c.args.at.now c.args.lets.now).value in
    let a_fits : SFits w64 c.constant.result = search rules in
    let r_fits : SFits w64 c.sum_of.result = search rules in
    let e = c.sum_of.ensures ∙ ap (λ (ts : List Multiple). int_wrap w64 (sum_of ts v)) c.terms.ensures.value in
    let small = form_small form c.args.at.now c.args.lets.now c.requires.limits c.requires.at c.requires.lets in
    let whole : SFits w64 (c.constant.result +ℤ sum_of form.terms v) = subst (λ (z : ℤ). SFits w64 (z +ℤ sum_of form.terms v)) (sym c.constant.ensures) (within_fits (2 ^ 44) (form_value form (symbols_at c.args.at.now c.args.lets.now)) small (lit< tt)) in
    wrapped_sum c.constant.result c.sum_of.result (sum_of form.terms v) a_fits r_fits e whole ∙ ap (λ (z : ℤ). z +ℤ sum_of form.terms v) c.constant.ensures

pub returns-clause-small : goal.returns-clause-small
returns-clause-small c =
    let form = c.args.form.now in
    let e = returns-clause-value c in
    subst (IsWithin (2 ^ 44)) (sym e) (form_small form c.args.at.now c.args.lets.now c.requires.limits c.requires.at c.requires.lets)
