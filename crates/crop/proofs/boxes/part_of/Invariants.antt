use Rattle.std.proofs.Common.{take}
use Rattle.crop.specs.Cutting.{AreParts}
use Rattle.crop.proofs.boxes.part_of.Given as goal

abbrev pub invariant-loop-place : goal.invariant-loop-place
invariant-loop-place l = AreParts (take l.place l.extents) (take l.place l.asked) l.part.items
