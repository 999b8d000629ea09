use Rattle.std.proofs.Common.{◌≡◌, take, true}
use Rattle.std.specs.List.{list_all}
use Rattle.plan.specs.View.{index_of}
use Rattle.soundness.specs.Binders.View.{binders_of}
use Rattle.rules.specs.Widths.Widths.{is_i32}
use Rattle.rules.proofs.widths.near.are_i32.Given as goal

abbrev pub invariant-loop-coordinate : goal.invariant-loop-coordinate
invariant-loop-coordinate g l = list_all (λ c. is_i32 (g.B.Bounds.rules l.bounds) (binders_of l.binders) (index_of c.index)) (take l.coordinate-index l.coordinates) ≡ true
