use Rattle.std.proofs.Common.{◌≡◌, List, [], ◌∷◌, sym, ap, ◌∙◌, subst, Bool, true}
use Rattle.std.specs.Prelude.{if◌then◌else◌}
use Rattle.lin.specs.declared.span.Span1.{Span1}
use Rattle.plan.specs.Certificate.Cells.{is_in_region}
use Rattle.plan.specs.Semantics.Actions.{Action, Give}
use Rattle.interpreter.specs.declared.visits.Visit.{Visit}
use Rattle.interpreter.specs.Bindings.{symbols_of}
use Rattle.interpreter.specs.Narrow.{RegionIsNarrow}
use Rattle.interpreter.specs.Pieces.{around}
use Rattle.interpreter.specs.States.{progress_of, EndsIn}
use Rattle.interpreter.specs.Steps.{steps}
use Rattle.interpreter.specs.Visits.{at_point, VisitIsNarrow}
use Rattle.interpreter.proofs.visits.visit_point.Goals as goal

pub is_in_region-requires : goal.is_in_region-requires
is_in_region-requires g c =
    let x = c.args.walk.now.piece.now in
    subst (λ (r : List Span1). RegionIsNarrow (symbols_of x.constants.now) r) (sym c.as_slice-region.ensures) (subst (λ (v : Visit). VisitIsNarrow x v) c.in-Publish.is c.requires)

pub returns-then-is_in_region-clause-run : goal.returns-then-is_in_region-clause-run
returns-then-is_in_region-clause-run g c =
    let x = c.args.walk.now.piece.now in
    let p = c.args.state.now.point.items in
    let cell = g.C.Cells.cell c.args.cells.now in
    let inside : is_in_region (symbols_of x.constants.now) x.group.now.region p ≡ true =
    (λ i. is_in_region (symbols_of x.constants.now) (sym c.as_slice-region.ensures i) (sym c.as_slice-in-Publish.ensures i)) ∙ sym c.is_in_region.ensures ∙ c.if-is_in_region.true in
    let e : at_point x c.args.walk.now.visit p ≡ Give c.in-Publish.claim p ∷ [] =
    ap (λ (v : Visit). at_point x v p) c.in-Publish.is ∙ ap (λ (b : Bool). if b then Give c.in-Publish.claim p ∷ [] else []) inside in
    subst (λ (l : List Action). EndsIn c.args.state.now.given.room (λ _. progress_of c.give.new.state) c.give.result (steps (around x cell) l (progress_of c.args.state.now))) (sym e) (c.give.ensures.give cell)
