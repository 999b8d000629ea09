use Rattle.std.proofs.Common.{◌≡◌, ◌∙◌, ◌+◌, ◌-◌, ◌<◌, ◌^◌, List, [], ap, arith, length, filter, min}
use Rattle.std.specs.Prelude.{All, IsTrue, ◌↔◌}
use Rattle.plan.specs.Symbols.{points}
use Rattle.plan.specs.Certificate.Cells.{grid_symbols}
use Rattle.shares.specs.declared.boxes.Side.{Side}
use Rattle.shares.specs.Boxes.{is_in_box, point_count}
use Rattle.shares.proofs.Empty.{counts_some, none_numbers, none_whole}
use Rattle.shares.proofs.spaces.runs_in.Goals as goal

pub returns-then-most_points-eq0-clause-numbers : goal.returns-then-most_points-eq0-clause-numbers
returns-then-most_points-eq0-clause-numbers c =
    let x = c.args.space.now in
    let qs = points (grid_symbols c.args.at.now) c.args.region.now in
    let same = c.most_points.ensures ∙ ap (λ (xs : List Side). min (point_count xs) (2 ^ 64 - 1)) c.deref.ensures.value in
    let none : point_count x.sides.items ≡ 0 = omega (arith, same, c.if-most_points-eq0.true) in
    c.new.ensures ∙ none_numbers x qs none

pub returns-then-most_points-eq0-clause-whole : goal.returns-then-most_points-eq0-clause-whole
returns-then-most_points-eq0-clause-whole c =
    let x = c.args.space.now in
    let qs = points (grid_symbols c.args.at.now) c.args.region.now in
    let same = c.most_points.ensures ∙ ap (λ (xs : List Side). min (point_count xs) (2 ^ 64 - 1)) c.deref.ensures.value in
    let none : point_count x.sides.items ≡ 0 = omega (arith, same, c.if-most_points-eq0.true) in
    let both = none_whole x qs none in
    let told = c.in_ok-none.ensures.whole in
    ((λ h. both.0 (told.0 h)), (λ h. told.1 (both.1 h)))

pub some_runs-requires-clause-sides : goal.some_runs-requires-clause-sides
some_runs-requires-clause-sides c =
    let x = c.args.space.now in
    let same = c.most_points.ensures ∙ ap (λ (xs : List Side). min (point_count xs) (2 ^ 64 - 1)) c.deref.ensures.value in
    c.requires.space.sides (counts_some x.sides.items (λ none. c.if-most_points-eq0.false (omega (arith, same, none))))
