use Rattle.std.proofs.Common.{◌+◌, ◌<◌, List, length, take, sym, subst, arith}
use Rattle.crop.specs.declared.cut.Stretch.{Stretch}
use Rattle.crop.specs.Cutting.{AreParts}
use Rattle.crop.proofs.Sides.{next_part}
use Rattle.crop.proofs.boxes.part_of.Goals as goal

pub loop-place-preserved : goal.loop-place-preserved
loop-place-preserved c =
    let i = c.loop-place.place in
    let P : List Stretch → Type 0 = λ l. AreParts (take (i + 1) c.args.extents.now) (take (i + 1) c.args.asked.now) l in
    let within : i < length c.args.asked.now = omega arith in
    subst P (sym c.in_ok-push.ensures.items)
    (next_part c.args.extents.now c.args.asked.now c.loop-place.part.items i _ _ c.part_at.result c.loop-place-test.true within c.loop-place.invariant c.part_at.ensures)
