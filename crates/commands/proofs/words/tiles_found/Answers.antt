use Rattle.std.proofs.Common.{refl}
use Rattle.commands.proofs.Named.{tiles_as}
use Rattle.commands.proofs.words.tiles_found.Goals as goal

pub returns-in_err-width : goal.returns-in_err-width
returns-in_err-width c = rw (c.from_residual.ensures, tiles_as _, ← c.in_err-width.ensures) refl

pub returns-in_err-height : goal.returns-in_err-height
returns-in_err-height c = rw (c.from_residual-in_err-height.ensures, tiles_as _, ← c.in_ok-width.ensures, ← c.in_err-height.ensures) refl

pub returns-in_err-algorithm : goal.returns-in_err-algorithm
returns-in_err-algorithm c = rw (c.from_residual-in_err-algorithm.ensures, tiles_as _, ← c.in_ok-width.ensures, ← c.in_ok-height.ensures, ← c.in_err-algorithm.ensures) refl

pub returns-in_err-folder : goal.returns-in_err-folder
returns-in_err-folder c = rw (c.from_residual-in_err-folder.ensures, tiles_as _, ← c.in_ok-width.ensures, ← c.in_ok-height.ensures, ← c.in_ok-algorithm.ensures, ← c.in_err-folder.ensures) refl

pub returns : goal.returns
returns c = rw (tiles_as _, ← c.in_ok-width.ensures, ← c.in_ok-height.ensures, ← c.in_ok-algorithm.ensures, ← c.in_ok-folder.ensures) refl
