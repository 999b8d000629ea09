use Rattle.std.proofs.Common.{◌≡◌, take, true}
use Rattle.std.specs.List.{list_all}
use Rattle.soundness.specs.Binders.View.{binders_of}
use Rattle.rules.specs.Widths.Widths.{is_near}
use Rattle.rules.proofs.widths.near.is_near_form.Given as goal

abbrev pub invariant-loop-term : goal.invariant-loop-term
invariant-loop-term g l = list_all (λ t. is_near (g.B.Bounds.rules l.bounds) (binders_of l.binders) t.symbol) (take l.term-index l.form.terms) ≡ true
