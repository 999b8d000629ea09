use Rattle.std.proofs.Common.{refl}
use Rattle.commands.proofs.Named.{draw_as}
use Rattle.commands.proofs.words.draw_found.Goals as goal

pub returns-in_err-check : goal.returns-in_err-check
returns-in_err-check c = rw (c.from_residual.ensures, draw_as _, ← c.in_err-check.ensures) refl

pub returns-in_err-output : goal.returns-in_err-output
returns-in_err-output c = rw (c.from_residual-in_err-output.ensures, draw_as _, ← c.in_ok-check.ensures, ← c.in_err-output.ensures) refl

pub returns : goal.returns
returns c = rw (draw_as _, ← c.in_ok-check.ensures, ← c.in_ok-output.ensures, ← c.get_str-order.ensures) refl
