use Rattle.std.proofs.Common.{refl}
use Rattle.commands.proofs.Named.{check_as}
use Rattle.commands.proofs.words.check_found.Goals as goal

pub returns-in_err-algorithm : goal.returns-in_err-algorithm
returns-in_err-algorithm c = rw (c.from_residual.ensures, check_as _, ← c.in_err-algorithm.ensures) refl

pub returns-in_err-plan : goal.returns-in_err-plan
returns-in_err-plan c = rw (c.from_residual-in_err-plan.ensures, check_as _, ← c.in_ok-algorithm.ensures, ← c.in_err-plan.ensures) refl

pub returns : goal.returns
returns c = rw (check_as _, ← c.in_ok-algorithm.ensures, ← c.in_ok-plan.ensures) refl
