use Rattle.std.proofs.Common.{refl}
use Rattle.commands.proofs.Named.{explain_as}
use Rattle.commands.proofs.words.explain_found.Goals as goal

pub returns-in_err-code : goal.returns-in_err-code
returns-in_err-code c = rw (c.from_residual.ensures, explain_as _, ← c.in_err-code.ensures) refl

pub returns-in_err-page : goal.returns-in_err-page
returns-in_err-page c = rw (c.from_residual-in_err-page.ensures, explain_as _, ← c.in_ok-code.ensures, ← c.in_err-page.ensures) refl

pub returns : goal.returns
returns c = rw (explain_as _, ← c.in_ok-code.ensures, ← c.in_ok-page.ensures) refl
