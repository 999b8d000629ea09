use Rattle.std.proofs.Common.{inr}
use Rattle.std.proofs.lemmas.Result.{err_from_is_err_and}
use Rattle.commands.proofs.Ways.{told}
use Rattle.commands.proofs.draw_command.drawn.Goals as goal

pub returns-in_err-crew-clause-refused : goal.returns-in_err-crew-clause-refused
returns-in_err-crew-clause-refused g c =
    let e = c.in_err-crew.field-0.0 in
    let p = err_from_is_err_and c.from_residual.result c.from_residual.ensures.1 in
    told _ c.from_residual.result p.0 e p.1 p.2 (inr c.in_err-crew.ensures.refused)
