use Rattle.std.proofs.Common.{sym, ap, ◌∙◌, rules, w64, SFits, get_or, pos, ℤ, ◌+ℤ◌, ◌*ℤ◌, take, drop, length, ◌-◌}
use Rattle.std.specs.Int.{int_wrap}
use Rattle.lin.specs.declared.form.Multiple.{Multiple}
use Rattle.shares.specs.Corners.{corner_sum, end_value}
use Rattle.shares.proofs.Cornered.{corner_first}
use Rattle.shares.proofs.Summing.{wrapped_step}
use Rattle.shares.proofs.corners.+corner_sum.Goals as goal

abbrev none : Multiple
none = record { symbol = 0; factor = pos 0 }

pub returns-in-len1-up : goal.returns-in-len1-up
returns-in-len1-up t c =
    let ts = c.args.terms.now in
    let up = c.args.up.now in
    let down = c.args.down.now in
    let f = (get_or ts 0 none).factor in
    let f_fits : SFits w64 f = search rules in
    let v_fits : SFits w64 c.end_value.result = search rules in
    let r_fits : SFits w64 c.corner_sum.result = search rules in
    wrapped_step f c.end_value.result c.corner_sum.result _ f_fits v_fits r_fits c.corner_sum.ensures
    ∙ ap (λ (z : ℤ). int_wrap w64 (f *ℤ z +ℤ corner_sum up down (take (length ts - 1) (drop 1 ts)))) c.end_value.ensures.value
    ∙ ap (int_wrap w64) (sym (corner_first up down ts none c.in-len1-up.len_at_least))
