use Rattle.std.proofs.Common.{refl}
use Rattle.commands.proofs.Named.{crop_as}
use Rattle.commands.proofs.words.crop_found.Goals as goal

pub returns-in_err-rect : goal.returns-in_err-rect
returns-in_err-rect c = rw (c.from_residual.ensures, crop_as _, ← c.in_err-rect.ensures) refl

pub returns-in_err-algorithm : goal.returns-in_err-algorithm
returns-in_err-algorithm c = rw (c.from_residual-in_err-algorithm.ensures, crop_as _, ← c.in_ok-rect.ensures, ← c.in_err-algorithm.ensures) refl

pub returns-in_err-output : goal.returns-in_err-output
returns-in_err-output c = rw (c.from_residual-in_err-output.ensures, crop_as _, ← c.in_ok-rect.ensures, ← c.in_ok-algorithm.ensures, ← c.in_err-output.ensures) refl

pub returns : goal.returns
returns c = rw (crop_as _, ← c.in_ok-rect.ensures, ← c.in_ok-algorithm.ensures, ← c.in_ok-output.ensures) refl
