use Rattle.std.proofs.Common.{◌≡◌, take, false}
use Rattle.std.specs.List.{list_any}
use Rattle.plan.specs.declared.stmt.Places.TheVariants.{From}
use Rattle.soundness.specs.Binders.View.{binders_of}
use Rattle.soundness.specs.Shown.{is_seated}
use Rattle.rules.proofs.widths.short.is_short.Given as goal

abbrev pub invariant-loop-form : goal.invariant-loop-form
invariant-loop-form g l = list_any (λ f. is_seated (g.B.Bounds.rules l.bounds) (binders_of l.binders) l.span (From f l.count)) (take l.form-index l.span.lower) ≡ false
