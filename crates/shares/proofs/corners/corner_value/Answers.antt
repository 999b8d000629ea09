use Rattle.std.proofs.Common.{List, sym, ap, ◌∙◌, subst, rules, w64, SFits, ℤ, ◌+ℤ◌, ◌^◌, lit<}
use Rattle.std.specs.Int.{int_wrap}
use Rattle.lin.specs.declared.form.Multiple.{Multiple}
use Rattle.lin.proofs.Machine.{within_fits}
use Rattle.shares.specs.Corners.{corner_sum, corner_value}
use Rattle.shares.proofs.Cornered.{corner_small}
use Rattle.shares.proofs.Summing.{wrapped_sum}
use Rattle.shares.proofs.corners.corner_value.Goals as goal

pub returns : goal.returns
returns c =
    let form = c.args.form.now in
    let up = c.args.up.now in
    let down = c.args.down.now in
    let a_fits : SFits w64 c.constant.result = search rules in
    let r_fits : SFits w64 c.corner_sum.result = search rules in
    let e = c.corner_sum.ensures ∙ ap (λ (ts : List Multiple). int_wrap w64 (corner_sum up down ts)) c.terms.ensures.value in
    let small = corner_small up down form c.requires.up c.requires.down c.requires.limits in
    let whole : SFits w64 (c.constant.result +ℤ corner_sum up down form.terms) = subst (λ (z : ℤ). SFits w64 (z +ℤ corner_sum up down form.terms)) (sym c.constant.ensures) (within_fits (2 ^ 44) (corner_value up down form) small (lit< tt)) in
    wrapped_sum c.constant.result c.corner_sum.result (corner_sum up down form.terms) a_fits r_fits e whole ∙ ap (λ (z : ℤ). z +ℤ corner_sum up down form.terms) c.constant.ensures
