use Rattle.std.proofs.Common.{◌≡◌, IfOk, sym, ◌∙◌, subst, add-one, Option}
use Rattle.lin.specs.declared.span.Span1.{Span1}
use Rattle.bounds.specs.Interval.{coordinate_of}
use Rattle.bounds.proofs.Coordinates.{past_other, at_name}
use Rattle.bounds.proofs.expression.coordinate.Goals as goal

pub returns-then-eq : goal.returns-then-eq
returns-then-eq c =
    let same = at_name (λ x. x.now) c.args.vars.now c.args.region.now c.args.name.now c.loop-place.place _ c.loop-place-test.true (sym c.eq.ensures ∙ c.if-eq.true) in
    let P : Option Span1 → Type 0 = λ o. IfOk c.coordinate_at.result (λ found. found ≡ coordinate_of o) in
    subst P (sym same ∙ c.loop-place.invariant) c.coordinate_at.ensures

pub loop-place-preserved : goal.loop-place-preserved
loop-place-preserved c =
    let step = past_other (λ x. x.now) c.args.vars.now c.args.region.now c.args.name.now c.loop-place.place _ c.loop-place-test.true (sym c.eq.ensures ∙ c.if-eq.false) in
    rw add-one (sym step ∙ c.loop-place.invariant)
