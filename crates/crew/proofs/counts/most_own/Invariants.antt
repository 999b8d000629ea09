use Rattle.board.specs.Layout.{own_of}
use Rattle.crew.specs.Opening.Layouts.{layout_of}
use Rattle.crew.proofs.Most.{IsMostBefore}
use Rattle.crew.proofs.counts.most_own.Given as goal

abbrev pub invariant-loop-piece : goal.invariant-loop-piece
invariant-loop-piece l = IsMostBefore (own_of (layout_of l.checked)) l.piece l.most
