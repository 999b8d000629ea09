use Rattle.std.proofs.Common.{◌<◌, length, arith}
use Rattle.std.proofs.lemmas.Bool.Decides.{nat_tests}
use Rattle.printer.proofs.Rows.{called_some}
use Rattle.printer.proofs.expressions.called_token.Goals as goal

pub returns-else-is_empty : goal.returns-else-is_empty
returns-else-is_empty c =
    let is_empty = c.is_empty.ensures in
    let not_empty = c.if-is_empty.false in
    let some : 0 < length c.args.at.now = grind (arith, nat_tests) in
    called_some c.args.name.now c.args.at.now c.name_token.result some c.name_token.ensures
