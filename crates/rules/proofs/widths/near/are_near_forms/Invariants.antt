use Rattle.std.proofs.Common.{◌≡◌, take, true}
use Rattle.std.specs.List.{list_all}
use Rattle.soundness.specs.Binders.View.{binders_of}
use Rattle.rules.specs.Widths.Widths.{is_near_form}
use Rattle.rules.proofs.widths.near.are_near_forms.Given as goal

abbrev pub invariant-loop-form : goal.invariant-loop-form
invariant-loop-form g l = list_all (is_near_form (g.B.Bounds.rules l.bounds) (binders_of l.binders)) (take l.form-index l.forms) ≡ true
