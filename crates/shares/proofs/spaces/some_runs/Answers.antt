use Rattle.std.proofs.Common.{◌≡◌, ◌<◌, ◌+◌, ◌-◌, ◌^◌, ℕ, List, length, map, filter, ap, sym, ◌∙◌, subst, arith, min}
use Rattle.std.specs.Prelude.{All}
use Rattle.std.proofs.lemmas.List.{length-map}
use Rattle.plan.specs.Symbols.{points}
use Rattle.plan.specs.Certificate.Cells.{grid_symbols}
use Rattle.shares.specs.declared.boxes.Side.{Side}
use Rattle.shares.specs.Boxes.{is_in_box, sides, point_count}
use Rattle.shares.specs.Walked.{shared_cells}
use Rattle.shares.proofs.Rows.{shared_below}
use Rattle.shares.proofs.Shared.{shared_is, raised_ranks, raised_below, whole_test}
use Rattle.shares.proofs.spaces.some_runs.Goals as goal

pub returns-clause-numbers : goal.returns-clause-numbers
returns-clause-numbers c =
    let s = grid_symbols c.args.at.now in
    let region = c.args.region.now in
    let R = c.args.space.now.sides.items in
    let own = c.deref.ensures.value ∙ c.in_ok-own.ensures.sides in
    let known = ap (λ (xs : List Side). shared_cells xs c.deref-2.result.now) own ∙ ap (λ (ys : List Side). shared_cells (sides s region) ys) c.deref-2.ensures.value ∙ shared_is s region R c.requires.dimensions in
    c.in_ok-cells.ensures ∙ ap (map (λ n. c.args.space.now.first + n)) known ∙ raised_ranks c.args.space.now.first R (filter (is_in_box R) (points s region))

pub returns-clause-whole : goal.returns-clause-whole
returns-clause-whole c =
    let s = grid_symbols c.args.at.now in
    let region = c.args.region.now in
    let R = c.args.space.now.sides.items in
    let own = c.deref.ensures.value ∙ c.in_ok-own.ensures.sides in
    let known = ap (λ (xs : List Side). shared_cells xs c.deref-2.result.now) own ∙ ap (λ (ys : List Side). shared_cells (sides s region) ys) c.deref-2.ensures.value in
    let few = c.requires.space.few in
    let long : c.len.result ≡ length (shared_cells (sides s region) R) = c.len.ensures.count ∙ ap length c.in_ok-cells.ensures ∙ length-map (shared_cells c.deref.result.now c.deref-2.result.now) (λ n. c.args.space.now.first + n) ∙ ap length known in
    whole_test s region R c.len.result c.most_points.result c.requires.dimensions (omega (arith, few)) long
    (c.most_points.ensures ∙ ap (λ (xs : List Side). min (point_count xs) (2 ^ 64 - 1)) (c.deref-3.ensures.value ∙ c.in_ok-own.ensures.sides))

pub returns-clause-within : goal.returns-clause-within
returns-clause-within c =
    let first = c.args.space.now.first in
    let R = c.args.space.now.sides.items in
    let Below : ℕ → List ℕ → Type 0 = λ n xs. All (λ k. k < n) xs in
    let shared = shared_cells c.deref.result.now c.deref-2.result.now in
    let low : Below (point_count R) shared = subst (λ (ys : List Side). Below (point_count ys) shared) c.deref-2.ensures.value (shared_below c.deref.result.now c.deref-2.result.now) in
    subst (Below (first + point_count R)) (sym c.in_ok-cells.ensures) (raised_below first (point_count R) shared low)
