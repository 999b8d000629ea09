use Rattle.std.proofs.Common.{refl}
use Rattle.commands.proofs.Named.{run_as}
use Rattle.commands.proofs.words.run_found.Goals as goal

pub returns-in_err-plan : goal.returns-in_err-plan
returns-in_err-plan c = rw (c.from_residual.ensures, run_as _, ← c.in_err-plan.ensures) refl

pub returns-in_err-workers : goal.returns-in_err-workers
returns-in_err-workers c = rw (c.from_residual-in_err-workers.ensures, run_as _, ← c.in_ok-plan.ensures, ← c.in_err-workers.ensures) refl

pub returns-in_err-most : goal.returns-in_err-most
returns-in_err-most c = rw (c.from_residual-in_err-most.ensures, run_as _, ← c.in_ok-plan.ensures, ← c.in_ok-workers.ensures, ← c.in_err-most.ensures) refl

pub returns : goal.returns
returns c = rw (run_as _, ← c.in_ok-plan.ensures, ← c.in_ok-workers.ensures, ← c.in_ok-most.ensures) c.picture_found.ensures
