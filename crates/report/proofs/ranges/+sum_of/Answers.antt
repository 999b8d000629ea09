use Rattle.std.proofs.Common.{sym, ap, ◌∙◌, rules, w64, SFits, get_or, pos, ◌+ℤ◌, ◌*ℤ◌, take, drop, length, ◌-◌}
use Rattle.std.specs.Int.{int_wrap}
use Rattle.lin.specs.declared.form.Multiple.{Multiple}
use Rattle.lin.specs.Forms.{sum_of}
use Rattle.report.specs.declared.known.Binding.{Binding}
use Rattle.report.specs.Ranges.{lows}
use Rattle.interpreter.proofs.Summing.{wrapped_step, sum_first}
use Rattle.report.proofs.ranges.+sum_of.Goals as goal

abbrev none : Multiple
none = record { symbol = 0; factor = pos 0 }

pub returns-in-len1-up : goal.returns-in-len1-up
returns-in-len1-up t c =
    let ts = c.args.terms.now in
    let v = lows c.args.known.now in
    let f = (get_or ts 0 none).factor in
    let f_fits : SFits w64 f = search rules in
    let v_fits : SFits w64 c.known_of.result.low = search rules in
    let r_fits : SFits w64 c.sum_of.result = search rules in
    wrapped_step f c.known_of.result.low c.sum_of.result _ f_fits v_fits r_fits c.sum_of.ensures
    ∙ ap (λ (b : Binding). int_wrap w64 (f *ℤ b.low +ℤ sum_of (take (length ts - 1) (drop 1 ts)) v)) c.known_of.ensures
    ∙ ap (int_wrap w64) (sym (sum_first ts v none c.in-len1-up.len_at_least))
