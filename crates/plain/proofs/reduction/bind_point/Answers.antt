use Rattle.std.proofs.Common.{◌≡◌, ◌%◌, ◌+ℤ◌, ℕ, ap, sym, ◌∙◌, w32, w64, to_z, of_z, map, ◌++◌, List, drop, ◌+◌}
use Rattle.std.proofs.lemmas.Int.{to_z-of_z}
use Rattle.meaning.specs.Reduction.{point}
use Rattle.meaning.specs.Conditions.{IsRange}
use Rattle.algo.specs.Parts.{range_of}
use Rattle.algo.specs.declared.function.Range.{Range as Stored}
use Rattle.algo.proofs.Lists.{All-at}
use Rattle.plain.specs.declared.scope.Binding.{Binding}
use Rattle.plain.specs.Works.{bound_name, bound_number}
use Rattle.plain.specs.Stages.{range_name}
use Rattle.plain.proofs.Points.{small_fits, low_fits_32, coordinate_fits, coordinate_is, names_more, point_more, map_twice}
use Rattle.plain.proofs.reduction.bind_point.Goals as goal

pub overflow_cast-rest : goal.overflow_cast-rest
overflow_cast-rest c =
    let range : IsRange (range_of c.range-item.result) = All-at IsRange range_of c.args.ranges.now c.loop-range.range-index c.range-item.result c.range-item.is c.loop-range-test.true c.requires in
    small_fits (range_of c.range-item.result) range c.loop-range.rest c.width-width.result c.width-width.ensures

pub overflow_add-from : goal.overflow_add-from
overflow_add-from c =
    let range : IsRange (range_of c.range-item.result) = All-at IsRange range_of c.args.ranges.now c.loop-range.range-index c.range-item.result c.range-item.is c.loop-range-test.true c.requires in
    let back : to_z w32 (of_z w32 c.range-item.result.low) ≡ c.range-item.result.low = to_z-of_z w32 c.range-item.result.low (low_fits_32 (range_of c.range-item.result) range) in
    let low : c.from.result ≡ c.range-item.result.low = cc (back, c.from.ensures) in
    coordinate_fits (range_of c.range-item.result) range c.loop-range.rest c.width-width.result c.width-width.ensures c.from.result low

pub loop-range-preserved : goal.loop-range-preserved
loop-range-preserved c =
    let x = c.range-item.result in
    let xs = c.args.ranges.now in
    let n = c.loop-range.range-index in
    let range : IsRange (range_of x) = All-at IsRange range_of xs n x c.range-item.is c.loop-range-test.true c.requires in
    let back : to_z w32 (of_z w32 x.low) ≡ x.low = to_z-of_z w32 x.low (low_fits_32 (range_of x) range) in
    let low : c.from.result ≡ x.low = cc (back, c.from.ensures) in
    let number = coordinate_is (range_of x) range c.loop-range.rest c.width-width.result c.width-width.ensures c.from.result low in
    let new : Binding = record { name = c.as_str.result; number = to_z w64 (of_z w64 (to_z w64 (of_z w64 c.from.result) +ℤ to_z w64 (c.loop-range.rest % c.width-width.result))) } in
    let all = map bound_name c.args.bindings.now.items ++ map range_name (map range_of xs) in
    let bs = c.loop-range.bindings.items in
    let cs = c.push.new.self.items in
    let items = c.in_ok-push.ensures.items in
    record {
      names = ap (λ (l : List (List ℕ)). map bound_name cs ++ l) (map_twice range_name range_of (drop (n + 1) xs))
          ∙ names_more bound_name (λ (d : Stored). range_name (range_of d)) all bs cs new xs n x c.range-item.is c.loop-range-test.true items c.as_str.ensures.value
          (ap (λ (l : List (List ℕ)). map bound_name bs ++ l) (sym (map_twice range_name range_of (drop n xs))) ∙ c.loop-range.invariant.names);
      numbers = point_more range_of bound_number (map bound_number c.args.bindings.now.items ++ point (map range_of xs) c.args.number) bs cs new xs n x c.loop-range.rest c.width-width.result c.range-item.is c.loop-range-test.true items c.width-width.ensures number c.loop-range.invariant.numbers;
    }
