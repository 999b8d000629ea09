use Rattle.std.proofs.Common.{refl}
use Rattle.commands.proofs.Named.{replay_as}
use Rattle.commands.proofs.words.replay_found.Goals as goal

pub returns-in_err-check : goal.returns-in_err-check
returns-in_err-check c = rw (c.from_residual.ensures, replay_as _, ← c.in_err-check.ensures) refl

pub returns-in_err-input : goal.returns-in_err-input
returns-in_err-input c = rw (c.from_residual-in_err-input.ensures, replay_as _, ← c.in_ok-check.ensures, ← c.in_err-input.ensures) refl

pub returns-in_err-order : goal.returns-in_err-order
returns-in_err-order c = rw (c.from_residual-in_err-order.ensures, replay_as _, ← c.in_ok-check.ensures, ← c.in_ok-input.ensures, ← c.in_err-order.ensures) refl

pub returns : goal.returns
returns c = rw (replay_as _, ← c.in_ok-check.ensures, ← c.in_ok-input.ensures, ← c.in_ok-order.ensures) refl
