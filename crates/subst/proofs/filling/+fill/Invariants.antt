use Rattle.subst.proofs.Fills.{FilledSoFar}
use Rattle.subst.proofs.filling.+fill.Given as goal

abbrev pub invariant-fill_row-loop-index : goal.invariant-fill_row-loop-index
invariant-fill_row-loop-index l = FilledSoFar l.names l.at l.by l.index-index l.row.at.items
