use Rattle.std.proofs.Common.{◌≡◌, arith, ◌∙◌, to_z, of_z}
use mir.Syntax.{w64}
use Rattle.std.proofs.lemmas.Int.{ints}
use Rattle.lin.proofs.Limits.{if_ok}
use Rattle.tails.proofs.Joined.{replaced_first}
use Rattle.tails.proofs.forms.+push_replaced.Goals as goal

pub returns-in_ok-push-in-Some : goal.returns-in_ok-push-in-Some
returns-in_ok-push-in-Some t c =
    let same : to_z w64 (of_z w64 c.args.factor) ≡ c.args.factor = omega (arith, ints) in
    if_ok c.push_replaced.result _ _
    (λ all h. h ∙ replaced_first c.args.form.now c.args.symbol c.args.factor _ _ c.args.others.now c.first-item.result c.in-Some.made c.in_ok-made-in-len1-up.field-0
    c.args.into.now c.push.new.self c.in-len1-up.len_at_least c.first-item.is same same c.in_ok-made-in-len1-up.ensures c.in-Some.is c.in_ok-push-in-Some.ensures.ok)
    c.push_replaced.ensures
