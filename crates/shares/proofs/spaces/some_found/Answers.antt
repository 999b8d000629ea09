use Rattle.std.proofs.Common.{◌<◌, ◌+◌, ◌-◌, ◌^◌, ℕ, List, length, map, filter, ap, sym, ◌∙◌, subst, arith, min}
use Rattle.std.specs.Prelude.{All}
use Rattle.plan.specs.Symbols.{points}
use Rattle.shares.specs.Lets.{symbols_at}
use Rattle.shares.specs.declared.boxes.Side.{Side}
use Rattle.shares.specs.Boxes.{is_in_box, sides, point_count}
use Rattle.shares.specs.Walked.{shared_cells}
use Rattle.shares.proofs.Shared.{shared_is, raised_ranks, raised_below, whole_test}
use Rattle.shares.proofs.spaces.some_found.Goals as goal

pub returns-clause-numbers : goal.returns-clause-numbers
returns-clause-numbers c =
    let s = symbols_at c.args.at.now c.args.lets.now in
    let region = c.args.region.now in
    let R = c.args.space.now.sides.items in
    let own = c.deref.ensures.value ∙ c.in_ok-own.ensures.sides in
    let known = c.in_ok-shared.ensures.cells ∙ ap (λ (xs : List Side). shared_cells xs c.deref-2.result.now) own ∙ ap (λ (ys : List Side). shared_cells (sides s region) ys) c.deref-2.ensures.value ∙ shared_is s region R c.requires.dimensions in
    c.raised-numbers.ensures ∙ ap (map (λ n. c.args.space.now.first + n)) known ∙ raised_ranks c.args.space.now.first R (filter (is_in_box R) (points s region))

pub returns-clause-whole : goal.returns-clause-whole
returns-clause-whole c =
    let s = symbols_at c.args.at.now c.args.lets.now in
    let region = c.args.region.now in
    let R = c.args.space.now.sides.items in
    let own = c.deref.ensures.value ∙ c.in_ok-own.ensures.sides in
    let known = c.in_ok-shared.ensures.cells ∙ ap (λ (xs : List Side). shared_cells xs c.deref-2.result.now) own ∙ ap (λ (ys : List Side). shared_cells (sides s region) ys) c.deref-2.ensures.value in
    let few = c.requires.space.few in
    whole_test s region R (length c.as_slice.result.now) c.most_points.result c.requires.dimensions (omega (arith, few)) (ap length (c.as_slice.ensures.value ∙ known))
    (c.most_points.ensures ∙ ap (λ (xs : List Side). min (point_count xs) (2 ^ 64 - 1)) (c.deref-3.ensures.value ∙ c.in_ok-own.ensures.sides))

pub returns-clause-within : goal.returns-clause-within
returns-clause-within c =
    let first = c.args.space.now.first in
    let count = point_count c.args.space.now.sides.items in
    let Below : ℕ → List ℕ → Type 0 = λ n xs. All (λ k. k < n) xs in
    let low : Below count c.in_ok-shared.shared.items = subst (λ (ys : List Side). Below (point_count ys) c.in_ok-shared.shared.items) c.deref-2.ensures.value c.in_ok-shared.ensures.within in
    subst (Below (first + count)) (sym c.raised-numbers.ensures) (raised_below first count c.in_ok-shared.shared.items low)
