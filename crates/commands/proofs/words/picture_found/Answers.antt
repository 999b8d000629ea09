use Rattle.std.proofs.Common.{refl}
use Rattle.commands.proofs.Named.{picture_as}
use Rattle.commands.proofs.words.picture_found.Goals as goal

pub returns-in_err-algorithm : goal.returns-in_err-algorithm
returns-in_err-algorithm c = rw (c.from_residual.ensures, picture_as _ _, ← c.in_err-algorithm.ensures) refl

pub returns-in_err-input : goal.returns-in_err-input
returns-in_err-input c = rw (c.from_residual-in_err-input.ensures, picture_as _ _, ← c.in_ok-algorithm.ensures, ← c.in_err-input.ensures) refl

pub returns-in_err-output : goal.returns-in_err-output
returns-in_err-output c = rw (c.from_residual-in_err-output.ensures, picture_as _ _, ← c.in_ok-algorithm.ensures, ← c.in_ok-input.ensures, ← c.in_err-output.ensures) refl

pub returns : goal.returns
returns c = rw (picture_as _ _, ← c.in_ok-algorithm.ensures, ← c.in_ok-input.ensures, ← c.in_ok-output.ensures) refl
