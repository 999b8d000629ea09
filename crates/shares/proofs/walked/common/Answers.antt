use Rattle.std.proofs.Common.{arith, ◌≡◌, ap, ◌∙◌}
use Rattle.std.specs.Prelude.{pos, ◌+ℤ◌}
use Rattle.std.specs.Int.{int_max, int_min}
use Rattle.std.proofs.lemmas.Int.{ints}
use Rattle.shares.specs.Walked.{IsNear, IsExtent}
use Rattle.shares.specs.declared.boxes.Side.{Side}
use mir.Val.{to_z, of_z}
use mir.Syntax.{w64}
use Rattle.std.specs.Prelude.{ℤ}
use Rattle.shares.proofs.Rows.{Ends, end_is, low_is, gap_fits, some_common, no_common}
use Rattle.shares.proofs.walked.common.Goals as goal

ends : (o r : Side) (low end : ℤ) → IsNear o → IsExtent r → low ≡ int_max (to_z w64 (of_z w64 o.low)) (to_z w64 (of_z w64 r.low)) →
    end ≡ int_min (to_z w64 (of_z w64 (to_z w64 (of_z w64 o.low) +ℤ to_z w64 o.count))) (to_z w64 (of_z w64 (to_z w64 (of_z w64 r.low) +ℤ to_z w64 r.count))) → Ends o r low end
ends o r low end near extent a b = record {
  low_is = a ∙ ap (λ (z : ℤ). int_max z (to_z w64 (of_z w64 r.low))) (low_is o.low near.0) ∙ ap (int_max o.low) (low_is r.low extent.0);
  end_is = b ∙ ap (λ (z : ℤ). int_min z (to_z w64 (of_z w64 (to_z w64 (of_z w64 r.low) +ℤ to_z w64 r.count)))) (end_is o.low o.count near.0 near.1)
      ∙ ap (int_min (o.low +ℤ pos o.count)) (end_is r.low r.count extent.0 (omega (arith, extent.1)));
}

pub overflow_cast-count : goal.overflow_cast-count
overflow_cast-count c =
    gap_fits c.args.own c.args.extent c.max-low.result c.min-end.result c.requires.own c.requires.extent
    (ends c.args.own c.args.extent c.max-low.result c.min-end.result c.requires.own c.requires.extent c.max-low.ensures.value c.min-end.ensures.value) (omega (arith, ints, c.if-low-end.true))

pub returns-then-low-end : goal.returns-then-low-end
returns-then-low-end c =
    some_common c.args.own c.args.extent c.max-low.result c.min-end.result c.requires.own c.requires.extent
    (ends c.args.own c.args.extent c.max-low.result c.min-end.result c.requires.own c.requires.extent c.max-low.ensures.value c.min-end.ensures.value) (omega (arith, ints, c.if-low-end.true))

pub returns-else-low-end : goal.returns-else-low-end
returns-else-low-end c =
    no_common c.args.own c.args.extent c.max-low.result c.min-end.result c.requires.own c.requires.extent
    (ends c.args.own c.args.extent c.max-low.result c.min-end.result c.requires.own c.requires.extent c.max-low.ensures.value c.min-end.ensures.value) (omega (arith, ints, c.if-low-end.false))
