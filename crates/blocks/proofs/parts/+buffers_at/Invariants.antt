use Rattle.blocks.proofs.parts.+buffers_at.Given as goal

abbrev pub decreases-buffers_at : goal.decreases-buffers_at
decreases-buffers_at l = l.count
