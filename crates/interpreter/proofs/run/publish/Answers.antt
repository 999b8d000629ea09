use Rattle.std.proofs.Common.{◌≡◌, List, [], ◌∷◌, sym, ap, ◌∙◌, subst, map, length, ◌≤◌, Option, Some, MatchOption}
use Rattle.std.specs.Prelude.{flat_map, if◌then◌else◌}
use Rattle.lin.specs.declared.span.Span1.{Span1}
use Rattle.plan.specs.Symbols.{Symbols}
use Rattle.plan.specs.View.{group_of}
use Rattle.plan.specs.declared.certificate.cert.Own.{Own}
use Rattle.plan.specs.Certificate.Cells.{is_in_region, no_symbols, own_region, points_within}
use Rattle.plan.specs.Semantics.Actions.{Action, Give}
use Rattle.interpreter.specs.Bindings.{symbols_of}
use Rattle.interpreter.specs.Narrow.{RegionIsNarrow}
use Rattle.interpreter.specs.Needs.{region_count}
use Rattle.interpreter.specs.Pieces.{around}
use Rattle.interpreter.specs.States.{progress_of, EndsIn}
use Rattle.interpreter.specs.Steps.{steps}
use Rattle.interpreter.specs.Visits.{extended}
use Rattle.interpreter.proofs.Giving.{gives_own}
use Rattle.interpreter.proofs.run.publish.Goals as goal

pub visit_points-requires-clause-region : goal.visit_points-requires-clause-region
visit_points-requires-clause-region g c =
    let x = c.args.piece.now in
    let s = symbols_of c.args.symbols.now in
    let found : own_region x.cert.now.own.items x.number ≡ Some c.in-Some.region.now = ap (λ (os : List Own). own_region os x.number) (sym c.deref.ensures.value) ∙ c.in-Some.ensures in
    subst (λ (r : List Span1). RegionIsNarrow s r) (sym c.as_slice.ensures) (subst (λ (o : Option (List Span1)). MatchOption o (Unit {0}) (RegionIsNarrow s)) found c.requires.narrow.own)

pub visit_points-requires-clause-visit : goal.visit_points-requires-clause-visit
visit_points-requires-clause-visit g c =
    let x = c.args.piece.now in
    subst (λ (b : Symbols). RegionIsNarrow b x.group.now.region) (sym c.requires.ready.constants) c.requires.narrow.group

pub visit_points-requires-clause-room : goal.visit_points-requires-clause-room
visit_points-requires-clause-room g c =
    let x = c.args.piece.now in
    let room = c.args.state.now.point.room in
    let found : own_region x.cert.now.own.items x.number ≡ Some c.in-Some.region.now = ap (λ (os : List Own). own_region os x.number) (sym c.deref.ensures.value) ∙ c.in-Some.ensures in
    subst (λ (r : List Span1). length r ≤ room) (sym c.as_slice.ensures) (subst (λ (o : Option (List Span1)). region_count o ≤ room) found c.requires.room)

pub returns-clause-run : goal.returns-clause-run
returns-clause-run g c =
    let x = c.args.piece.now in
    let s = symbols_of c.args.symbols.now in
    let k = c.args.claim in
    let region = x.group.now.region in
    let cell = g.C.Cells.cell c.args.cells.now in
    let found : own_region x.cert.now.own.items x.number ≡ Some c.in-Some.region.now = ap (λ (os : List Own). own_region os x.number) (sym c.deref.ensures.value) ∙ c.in-Some.ensures in
    let e : flat_map (λ p. if is_in_region (symbols_of x.constants.now) region p then Give k p ∷ [] else []) (extended s c.as_slice.result.now []) ≡ map (Give k) (points_within (group_of x.group.now) (own_region x.cert.now.own.items x.number) s) =
    ap (λ (b : Symbols). flat_map (λ p. if is_in_region b region p then Give k p ∷ [] else []) (extended s c.as_slice.result.now [])) c.requires.ready.constants
    ∙ ap (λ (xs : List Span1). flat_map (λ p. if is_in_region no_symbols region p then Give k p ∷ [] else []) (extended s xs [])) c.as_slice.ensures
    ∙ sym (gives_own (group_of x.group.now) s k (own_region x.cert.now.own.items x.number) c.in-Some.region.now found) in
    subst (λ (l : List Action). EndsIn c.args.state.now.given.room (λ _. progress_of c.visit_points.new.state) c.visit_points.result (steps (around x cell) l (progress_of c.args.state.now))) e c.visit_points.ensures.run
