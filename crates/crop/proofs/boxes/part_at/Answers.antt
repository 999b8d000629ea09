use Rattle.crop.proofs.boxes.part_at.Goals as goal

pub returns-else-place-lt2 : goal.returns-else-place-lt2
returns-else-place-lt2 c = c.whole_side.ensures c.args.asked
