use Rattle.std.proofs.Common.{◌≡◌, ◌∙◌, ap, rules}
use Rattle.std.specs.Prelude.{ℤ, fold}
use Rattle.std.specs.Int.{int_max}
use Rattle.std.proofs.lemmas.Int.{to_z-of_z}
use Rattle.validation.proofs.Ends.{constants, others, largest_is}
use Rattle.validation.proofs.groups.ends.low_end.Goals as goal
use mir.Syntax.{w64}
use mir.Val.{SFits, to_z, of_z}

pub returns-in-len1-up : goal.returns-in-len1-up
returns-in-len1-up c =
    let forms = c.as_slice.result.now in
    let fits : SFits w64 c.largest_with.result = search rules in
    let first : SFits w64 c.constant.result = search rules in
    let of : c.largest_with.result ≡ fold int_max (to_z w64 (of_z w64 c.constant.result)) (constants (others forms)) = c.largest_with.ensures in
    to_z-of_z w64 c.largest_with.result fits ∙ of ∙ ap (λ (z : ℤ). fold int_max z (constants (others forms))) (to_z-of_z w64 c.constant.result first ∙ c.constant.ensures)
    ∙ largest_is forms c.args.span.now.lower c.first-item.result c.in-len1-up.len_at_least c.first-item.is c.as_slice.ensures
