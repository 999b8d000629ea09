use Rattle.std.proofs.Common.{◌≡◌, ◌*◌, ◌+◌, ◌-◌, ◌^◌, ◌<◌, ◌≤◌, ℕ, arith, ap, sym, ◌∙◌, get_or, drop, length, min}
use Rattle.std.specs.Prelude.{pos}
use Rattle.std.proofs.Math.Nat.{mul_assoc, mul-one}
use Rattle.shares.specs.declared.boxes.Side.{Side}
use Rattle.shares.specs.Boxes.{point_count}
use Rattle.shares.proofs.Rows.{count_more, count_done, capped_more}
use Rattle.shares.proofs.boxes.most_points.Goals as goal

abbrev none : Side
none = record { low = pos 0; count = 0 }

pub loop-side-preserved : goal.loop-side-preserved
loop-side-preserved c =
    let xs = c.args.sides.now in let i = c.loop-side.side-index in
    let within : i < length xs = omega (arith, c.loop-side-test.true) in
    let rest = point_count (drop (i + 1) xs) in
    let x = (get_or xs i none).count in
    let count = c.loop-side.count in
    let made : c.saturating_mul-count.result ≡ min (count * x) (2 ^ 64 - 1) = c.saturating_mul-count.ensures in (
      ap (λ (r : ℕ). min (r * rest) (2 ^ 64 - 1)) made ∙ capped_more (count * x) rest (2 ^ 64 - 1) ∙ ap (λ (n : ℕ). min n (2 ^ 64 - 1)) (mul_assoc count x rest)
          ∙ ap (λ (n : ℕ). min (count * n) (2 ^ 64 - 1)) (sym (count_more xs i none within)) ∙ c.loop-side.invariant.0,
      omega (arith, made),
    )

pub returns : goal.returns
returns c =
    let xs = c.args.sides.now in let i = c.loop-side.side-index in
    let count = c.loop-side.count in
    let one : point_count (drop i xs) ≡ 1 = count_done xs i (omega (arith, c.loop-side-test.false)) in
    let whole : min (count * 1) (2 ^ 64 - 1) ≡ min (point_count xs) (2 ^ 64 - 1) = ap (λ (n : ℕ). min (count * n) (2 ^ 64 - 1)) (sym one) ∙ c.loop-side.invariant.0 in
    let same : count * 1 ≡ count = mul-one count in
    let fits : count ≤ 2 ^ 64 - 1 = c.loop-side.invariant.1 in
    let kept : min count (2 ^ 64 - 1) ≡ count = omega arith in
    sym kept ∙ ap (λ (n : ℕ). min n (2 ^ 64 - 1)) (sym same) ∙ whole
