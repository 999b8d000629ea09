use Rattle.std.proofs.Common.{refl}
use Rattle.commands.proofs.Named.{format_as}
use Rattle.commands.proofs.words.format_found.Goals as goal

pub returns-in_err-algorithm : goal.returns-in_err-algorithm
returns-in_err-algorithm c = rw (c.from_residual.ensures, format_as _, ← c.in_err-algorithm.ensures) refl

pub returns-in_err-output : goal.returns-in_err-output
returns-in_err-output c = rw (c.from_residual-in_err-output.ensures, format_as _, ← c.in_ok-algorithm.ensures, ← c.in_err-output.ensures) refl

pub returns : goal.returns
returns c = rw (format_as _, ← c.in_ok-algorithm.ensures, ← c.in_ok-output.ensures) refl
