use Rattle.std.proofs.Common.{◌≡◌, List, ℕ, [], ◌∷◌, sym, ap, ◌∙◌, subst, map, slice_get}
use Rattle.std.specs.Prelude.{flat_map}
use Rattle.lin.specs.declared.span.Span1.{Span1}
use Rattle.plan.specs.declared.plan.Group.{Group as CodeGroup}
use Rattle.plan.specs.Symbols.{points}
use Rattle.plan.specs.View.{group_of}
use Rattle.plan.specs.Semantics.Actions.{Action, Take}
use Rattle.plan.specs.Semantics.Setting.{group_name}
use Rattle.interpreter.specs.Bindings.{symbols_of}
use Rattle.interpreter.specs.Pieces.{around}
use Rattle.interpreter.specs.States.{progress_of, EndsIn}
use Rattle.interpreter.specs.Steps.{steps}
use Rattle.interpreter.specs.Visits.{extended}
use Rattle.interpreter.proofs.Pointwise.{fetched}
use Rattle.interpreter.proofs.run.fetch.Goals as goal

pub returns-clause-run : goal.returns-clause-run
returns-clause-run g c =
    let x = c.args.piece.now in
    let s = symbols_of c.args.symbols.now in
    let b = c.args.buffer in
    let cell = g.C.Cells.cell c.args.cells.now in
    let name : c.group_name.result.now ≡ group_name (slice_get (map group_of x.plan.now.groups.items) c.args.group) =
    c.group_name.ensures ∙ ap (λ (gs : List CodeGroup). group_name (slice_get (map group_of gs) c.args.group)) c.deref.ensures.value in
    let e : flat_map (λ p. Take b c.group_name.result.now p ∷ []) (extended s c.as_slice.result.now []) ≡ map (Take b (group_name (slice_get (map group_of x.plan.now.groups.items) c.args.group))) (points s c.args.region.now) =
    sym (fetched s b c.group_name.result.now c.as_slice.result.now) ∙ ap (λ (xs : List Span1). map (Take b c.group_name.result.now) (points s xs)) c.as_slice.ensures
    ∙ ap (λ (f : List ℕ). map (Take b f) (points s c.args.region.now)) name in
    subst (λ (l : List Action). EndsIn c.args.state.now.given.room (λ _. progress_of c.visit_points.new.state) c.visit_points.result (steps (around x cell) l (progress_of c.args.state.now))) e c.visit_points.ensures.run
