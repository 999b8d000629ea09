use Rattle.std.proofs.Common.{◌≡◌, ℕ, ◌+◌, ◌*◌, ◌≤◌, drop, map, ap, sym, ◌∙◌, arith}
use Rattle.std.proofs.Math.Nat.{mul_assoc}
use Rattle.meaning.specs.Reduction.{size}
use Rattle.algo.specs.Parts.{range_of}
use Rattle.algo.proofs.Lists.{size-drop, size_positive}
use Rattle.plain.proofs.reduction.size.Goals as goal

-- the number of points is the product so far, times one more width, times what is left
whole : (points w left rest all : ℕ) → rest ≡ w * left → points * rest ≡ all → (points * w) * left ≡ all
whole points w left rest all e f = mul_assoc points w left ∙ ap (λ n. points * n) (sym e) ∙ f

above : (product left all : ℕ) → product * left ≡ all → 1 ≤ left → product ≤ all
above product left all e h = grind arith

pub overflow_mul-points : goal.overflow_mul-points
overflow_mul-points c =
    let left = size (map range_of (drop (c.loop-range.range-index + 1) c.args.ranges.now)) in
    let e : size (map range_of (drop c.loop-range.range-index c.args.ranges.now)) ≡ c.width-points.result * left = size-drop range_of c.args.ranges.now c.loop-range.range-index c.range-item.result c.range-item.is c.loop-range-test.true ∙ ap (λ w. w * left) (sym c.width-points.ensures) in
    let all : (c.loop-range.points * c.width-points.result) * left ≡ size (map range_of c.args.ranges.now) = whole c.loop-range.points c.width-points.result left _ _ e c.loop-range.invariant in
    let big : c.loop-range.points * c.width-points.result ≤ size (map range_of c.args.ranges.now) = above _ left _ all (size_positive (map range_of (drop (c.loop-range.range-index + 1) c.args.ranges.now))) in
    omega (arith, big, c.requires)

pub loop-range-preserved : goal.loop-range-preserved
loop-range-preserved c =
    let left = size (map range_of (drop (c.loop-range.range-index + 1) c.args.ranges.now)) in
    let e : size (map range_of (drop c.loop-range.range-index c.args.ranges.now)) ≡ c.width-points.result * left = size-drop range_of c.args.ranges.now c.loop-range.range-index c.range-item.result c.range-item.is c.loop-range-test.true ∙ ap (λ w. w * left) (sym c.width-points.ensures) in
    whole c.loop-range.points c.width-points.result left _ _ e c.loop-range.invariant
