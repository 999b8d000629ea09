use Rattle.std.proofs.Common.{refl}
use Rattle.commands.proofs.Named.{rect_as}
use Rattle.commands.proofs.words.rect_found.Goals as goal

pub returns-in_err-x : goal.returns-in_err-x
returns-in_err-x c = rw (c.from_residual.ensures, rect_as _, ← c.in_err-x.ensures) refl

pub returns-in_err-y : goal.returns-in_err-y
returns-in_err-y c = rw (c.from_residual-in_err-y.ensures, rect_as _, ← c.in_ok-x.ensures, ← c.in_err-y.ensures) refl

pub returns-in_err-width : goal.returns-in_err-width
returns-in_err-width c = rw (c.from_residual-in_err-width.ensures, rect_as _, ← c.in_ok-x.ensures, ← c.in_ok-y.ensures, ← c.in_err-width.ensures) refl

pub returns-in_err-height : goal.returns-in_err-height
returns-in_err-height c = rw (c.from_residual-in_err-height.ensures, rect_as _, ← c.in_ok-x.ensures, ← c.in_ok-y.ensures, ← c.in_ok-width.ensures, ← c.in_err-height.ensures) refl

pub returns : goal.returns
returns c = rw (rect_as _, ← c.in_ok-x.ensures, ← c.in_ok-y.ensures, ← c.in_ok-width.ensures, ← c.in_ok-height.ensures) refl
