use Rattle.std.proofs.Common.{refl}
use Rattle.commands.proofs.words.comparison_found.Goals as goal

pub returns-in_err-algorithm : goal.returns-in_err-algorithm
returns-in_err-algorithm c = rw (c.from_residual.ensures, ← c.in_err-algorithm.ensures) refl

pub returns-in_err-input : goal.returns-in_err-input
returns-in_err-input c = rw (c.from_residual-in_err-input.ensures, ← c.in_ok-algorithm.ensures, ← c.in_err-input.ensures) refl

pub returns : goal.returns
returns c = rw (← c.in_ok-algorithm.ensures, ← c.in_ok-input.ensures, ← c.is_by_first-by_first.ensures) refl
