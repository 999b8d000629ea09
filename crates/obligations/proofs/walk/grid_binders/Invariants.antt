use Rattle.std.proofs.Common.{◌≡◌, take}
use Rattle.soundness.specs.Binders.View.{binders_of, grid_binders}
use Rattle.obligations.proofs.walk.grid_binders.Given as goal

abbrev pub invariant-loop-symbol : goal.invariant-loop-symbol
invariant-loop-symbol l = binders_of l.binders.items ≡ grid_binders (take l.symbol l.counts)
