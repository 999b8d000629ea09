use Rattle.std.proofs.Common.{◌≡◌, true, rules, sym, ◌∙◌, pos, w64}
use Rattle.std.proofs.lemmas.Int.{to_z-of_z}
use mir.Val.{SFits}
use Rattle.regions.proofs.Stepping.{parts_more}
use Rattle.regions.proofs.forms.+plus_parts.Goals as goal

pub returns-in-Some : goal.returns-in-Some
returns-in-Some t c =
    let fits : SFits w64 c.args.divisor = first_of (search rules, assumption c) in
    let yes : c.is_multiple.result ≡ true = search rules in
    parts_more c.args.divisor _ c.args.form c.in-Some.next (record { symbol = 0; factor = pos 0 }) c.args.terms.now c.in_ok-next-in-len1-up.field-0 c.plus_parts.result
    (to_z-of_z w64 c.args.divisor fits) c.in-len1-up.len_at_least (sym c.is_multiple.ensures ∙ yes) c.in_ok-next-in-len1-up.ensures c.in-Some.is c.plus_parts.ensures
