use Rattle.std.proofs.Common.{◌≡◌, take, true}
use Rattle.std.specs.List.{list_all}
use Rattle.soundness.specs.Binders.View.{binders_of}
use Rattle.rules.specs.Widths.Widths.{are_near_places}
use Rattle.rules.proofs.widths.near.are_near_places.Given as goal

abbrev pub invariant-loop-one : goal.invariant-loop-one
invariant-loop-one g l = list_all (are_near_places (g.B.Bounds.rules l.bounds) (binders_of l.binders)) (take l.one-index l.places) ≡ true
