use Rattle.std.proofs.Common.{◌≡◌, drop}
use Rattle.soundness.specs.Binders.View.{binders_of}
use Rattle.soundness.specs.Nests.Tests.{binders_in}
use Rattle.rules.specs.Nests.View.{loops_of}
use Rattle.rules.proofs.nests.seats.binders_in.Given as goal

abbrev pub invariant-loop-turns : goal.invariant-loop-turns
invariant-loop-turns l = binders_in (loops_of (drop l.turns-index l.loops)) (binders_of l.all.items) ≡ binders_in (loops_of l.loops) (binders_of l.binders)
