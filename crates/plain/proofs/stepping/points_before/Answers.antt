use Rattle.std.proofs.Common.{◌≤◌, ◌<◌, ap, sym, subst, arith, ◌∙◌, List, map, length, []}
use Rattle.meaning.specs.Algorithm.{Change, Range}
use Rattle.meaning.specs.Reduction.{size}
use Rattle.algo.specs.Parts.{range_of}
use Rattle.algo.specs.declared.function.Range.{Range as Stored}
use Rattle.algo.specs.View.{algorithm_of}
use Rattle.plain.specs.Scopes.{function_at}
use Rattle.plain.proofs.Known.{is_update}
use Rattle.plain.proofs.stepping.points_before.Goals as goal

pub size-requires : goal.size-requires
size-requires c =
    let a = algorithm_of c.args.algo.now in
    let some = c.in-Some.ensures in
    let below : c.in-Some.before < length (function_at a c.args.function).changes = omega (arith, some.0, some.1, c.requires.update) in
    let ranges = ap (λ (l : List Stored). map range_of l) c.deref.ensures.value ∙ ap (λ (u : Change). u.ranges) c.update_at.ensures in
    subst (λ (l : List Range). size l ≤ 16777216) (sym ranges) (is_update a [] c.is_well_formed.ensures c.args.function c.requires.function c.in-Some.before below).domain.points
