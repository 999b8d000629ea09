use Rattle.std.proofs.Common.{refl}
use Rattle.commands.proofs.Named.{plain_as}
use Rattle.commands.proofs.words.plain_found.Goals as goal

pub returns-in_err-most : goal.returns-in_err-most
returns-in_err-most c = rw (c.from_residual.ensures, plain_as _, ← c.in_err-most.ensures) refl

pub returns : goal.returns
returns c = rw (plain_as _, ← c.in_ok-most.ensures) c.picture_found.ensures
