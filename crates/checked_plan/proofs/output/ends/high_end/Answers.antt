use Rattle.std.proofs.Common.{◌≡◌, ◌∙◌, ap, rules}
use Rattle.std.specs.Prelude.{ℤ, fold}
use Rattle.std.specs.Int.{int_min}
use Rattle.std.proofs.lemmas.Int.{to_z-of_z}
use Rattle.checked_plan.proofs.Ends.{constants, others, smallest_is}
use Rattle.checked_plan.proofs.output.ends.high_end.Goals as goal
use mir.Syntax.{w64}
use mir.Val.{SFits, to_z, of_z}

pub returns-in-len1-up : goal.returns-in-len1-up
returns-in-len1-up c =
    let forms = c.as_slice.result.now in
    let fits : SFits w64 c.smallest_with.result = search rules in
    let first : SFits w64 c.constant.result = search rules in
    let of : c.smallest_with.result ≡ fold int_min (to_z w64 (of_z w64 c.constant.result)) (constants (others forms)) = c.smallest_with.ensures in
    to_z-of_z w64 c.smallest_with.result fits ∙ of ∙ ap (λ (z : ℤ). fold int_min z (constants (others forms))) (to_z-of_z w64 c.constant.result first ∙ c.constant.ensures)
    ∙ smallest_is forms c.args.span.now.upper c.first-item.result c.in-len1-up.len_at_least c.first-item.is c.as_slice.ensures
