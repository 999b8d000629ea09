use Rattle.std.proofs.Common.{sym, ap, ◌∙◌, rules}
use Rattle.std.proofs.lemmas.Int.{to_z-of_z}
use Rattle.piece.specs.Found.{number_or_zero}
use Rattle.piece.proofs.RisingLists.{searched_nowhere, searched_there}
use Rattle.piece.proofs.rising.value_among.Goals as goal
use mir.Syntax.{w64}
use mir.Val.{SFits}

pub returns-in_default : goal.returns-in_default
returns-in_default c =
    sym (ap number_or_zero (searched_nowhere c.args.number c.args.numbers.now c.args.looked.now c.requires c.binary_search.result c.binary_search.ensures.position c.in_default.field-0 c.in_default.is))

pub returns-in-Some : goal.returns-in-Some
returns-in-Some c =
    let fits : SFits w64 c.in-Some.value = search rules in
    let there = searched_there c.args.number c.args.numbers.now c.args.looked.now c.requires c.binary_search.result c.binary_search.ensures.position c.in-Ok.place c.in-Ok.is in
    to_z-of_z w64 c.in-Some.value fits ∙ sym (ap number_or_zero (there ∙ sym c.in-Some.ensures))

pub returns-in-None : goal.returns-in-None
returns-in-None c =
    let there = searched_there c.args.number c.args.numbers.now c.args.looked.now c.requires c.binary_search.result c.binary_search.ensures.position c.in-Ok.place c.in-Ok.is in
    sym (ap number_or_zero (there ∙ sym c.in-None.ensures))
