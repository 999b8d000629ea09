use Rattle.std.proofs.Common.{◌∙◌, ◌-◌, ◌^◌, List, ap, length, min}
use Rattle.plan.specs.Symbols.{points}
use Rattle.shares.specs.Lets.{symbols_at}
use Rattle.shares.specs.declared.boxes.Side.{Side}
use Rattle.shares.specs.Boxes.{sides, point_count}
use Rattle.shares.proofs.Shared.{points_counted}
use Rattle.shares.proofs.Empty.{none_most}
use Rattle.shares.proofs.spaces.none_found.Goals as goal

pub returns-clause-whole : goal.returns-clause-whole
returns-clause-whole c =
    let s = symbols_at c.args.at.now c.args.lets.now in
    let region = c.args.region.now in
    let same = c.most_points-whole.ensures ∙ ap (λ (xs : List Side). min (point_count xs) (2 ^ 64 - 1)) (c.deref.ensures.value ∙ c.in_ok-own.ensures.sides) in
    none_most c.most_points-whole.result (point_count (sides s region)) (length (points s region)) same (points_counted s region)
