use Rattle.std.proofs.Common.{◌≡◌, ◌∙◌, ◌+◌, ◌-◌, ◌<◌, ◌^◌, List, [], ap, arith, length, filter, min}
use Rattle.std.specs.Prelude.{All, IsTrue, ◌↔◌}
use Rattle.lin.proofs.Limits.{if_ok}
use Rattle.plan.specs.Symbols.{points}
use Rattle.shares.specs.Lets.{symbols_at}
use Rattle.shares.specs.declared.boxes.Side.{Side}
use Rattle.shares.specs.Boxes.{is_in_box, point_count}
use Rattle.shares.specs.Spaces.{numbers_in, HasAll}
use Rattle.shares.proofs.Empty.{counts_some, none_numbers, none_whole}
use Rattle.shares.proofs.spaces.found_by.Goals as goal

pub returns-then-count-eq0-clause-numbers : goal.returns-then-count-eq0-clause-numbers
returns-then-count-eq0-clause-numbers c =
    let x = c.args.space.now in
    let qs = points (symbols_at c.args.at.now c.args.lets.now) c.args.region.now in
    let same = c.most_points-count.ensures ∙ ap (λ (xs : List Side). min (point_count xs) (2 ^ 64 - 1)) c.deref.ensures.value in
    let none : point_count x.sides.items ≡ 0 = omega (arith, same, c.if-count-eq0.true) in
    if_ok c.none_found.result (λ found. found.numbers.items ≡ []) (λ found. found.numbers.items ≡ numbers_in x (filter (is_in_box x.sides.items) qs)) (λ found e. e ∙ none_numbers x qs none) c.none_found.ensures.numbers

pub returns-then-count-eq0-clause-within : goal.returns-then-count-eq0-clause-within
returns-then-count-eq0-clause-within c =
    let x = c.args.space.now in
    if_ok c.none_found.result (λ found. found.numbers.items ≡ []) (λ found. All (λ n. n < x.first + point_count x.sides.items) found.numbers.items)
    (λ found e k d less. let long = ap length e in absurd (omega (arith, less, long))) c.none_found.ensures.numbers

pub returns-then-count-eq0-clause-whole : goal.returns-then-count-eq0-clause-whole
returns-then-count-eq0-clause-whole c =
    let x = c.args.space.now in
    let qs = points (symbols_at c.args.at.now c.args.lets.now) c.args.region.now in
    let same = c.most_points-count.ensures ∙ ap (λ (xs : List Side). min (point_count xs) (2 ^ 64 - 1)) c.deref.ensures.value in
    let none : point_count x.sides.items ≡ 0 = omega (arith, same, c.if-count-eq0.true) in
    let both = none_whole x qs none in
    if_ok c.none_found.result (λ found. IsTrue found.whole ↔ (length qs ≡ 0)) (λ found. IsTrue found.whole ↔ HasAll x qs) (λ found k. ((λ h. both.0 (k.0 h)), (λ h. k.1 (both.1 h)))) c.none_found.ensures.whole

pub some_found-requires-clause-sides : goal.some_found-requires-clause-sides
some_found-requires-clause-sides c =
    let x = c.args.space.now in
    let same = c.most_points-count.ensures ∙ ap (λ (xs : List Side). min (point_count xs) (2 ^ 64 - 1)) c.deref.ensures.value in
    c.requires.space.sides (counts_some x.sides.items (λ none. c.if-count-eq0.false (omega (arith, same, none))))
