use Rattle.std.proofs.Common.{refl}
use Rattle.commands.proofs.Named.{compile_as}
use Rattle.commands.proofs.words.compile_found.Goals as goal

pub returns-in_err-algorithm : goal.returns-in_err-algorithm
returns-in_err-algorithm c = rw (c.from_residual.ensures, compile_as _, ← c.in_err-algorithm.ensures) refl

pub returns-in_err-schedule : goal.returns-in_err-schedule
returns-in_err-schedule c = rw (c.from_residual-in_err-schedule.ensures, compile_as _, ← c.in_ok-algorithm.ensures, ← c.in_err-schedule.ensures) refl

pub returns-in_err-plan : goal.returns-in_err-plan
returns-in_err-plan c = rw (c.from_residual-in_err-plan.ensures, compile_as _, ← c.in_ok-algorithm.ensures, ← c.in_ok-schedule.ensures, ← c.in_err-plan.ensures) refl

pub returns : goal.returns
returns c = rw (compile_as _, ← c.in_ok-algorithm.ensures, ← c.in_ok-schedule.ensures, ← c.in_ok-plan.ensures) refl
