use Rattle.std.proofs.Common.{sym, ap, ◌∙◌, rules, w64, SFits, get_or, pos, ℤ, ◌+ℤ◌, ◌*ℤ◌, take, drop, length, ◌-◌}
use Rattle.std.specs.Int.{int_wrap}
use Rattle.lin.specs.declared.form.Multiple.{Multiple}
use Rattle.lin.specs.Forms.{sum_of}
use Rattle.shares.specs.Lets.{symbols_at}
use Rattle.shares.proofs.Summing.{wrapped_step, sum_first}
use Rattle.shares.proofs.forms.+sum_of.Goals as goal

abbrev none : Multiple
none = record { symbol = 0; factor = pos 0 }

pub returns-in-len1-up : goal.returns-in-len1-up
returns-in-len1-up t c =
    let ts = c.args.terms.now in
    let v = (symbols_at c.args.at.now c.args.lets.now).value in
    let f = (get_or ts 0 none).factor in
    let f_fits : SFits w64 f = search rules in
    let v_fits : SFits w64 c.symbol_value.result = search rules in
    let r_fits : SFits w64 c.sum_of.result = search rules in
    wrapped_step f c.symbol_value.result c.sum_of.result _ f_fits v_fits r_fits c.sum_of.ensures
    ∙ ap (λ (z : ℤ). int_wrap w64 (f *ℤ z +ℤ sum_of (take (length ts - 1) (drop 1 ts)) v)) c.symbol_value.ensures.value
    ∙ ap (int_wrap w64) (sym (sum_first ts v none c.in-len1-up.len_at_least))
