use Rattle.std.proofs.Common.{◌≡◌, ◌-◌, ◌<◌, ◌≤◌, length}
use Rattle.checked_plan.specs.View.{certificate_checked, plan_checked}
use Rattle.board.specs.Layout.{pieces_of}
use Rattle.crew.specs.Private.{HasMemory}
use Rattle.crew.specs.Stages.{AreDesks, AreFreshFrom, ArePut}
use Rattle.crew.proofs.stages.filled_in_stages.Given as goal

abbrev pub invariant-loop-from : goal.invariant-loop-from
invariant-loop-from g l = record {
  end : l.from ≤ l.count;
  put : ArePut g.J.Run.layout g.J.Run.values l.sheet l.from;
  some : 0 < length l.desks;
  few : length l.desks ≤ 64;
  all : length l.lists ≡ pieces_of g.J.Run.layout;
  desks : AreDesks g.J.Run.layout l.pieces.checked.now (HasMemory g.J.Run.layout (plan_checked l.pieces.checked.now) (certificate_checked l.pieces.checked.now)) l.desks;
  lists : AreFreshFrom g.J.Run.layout l.from l.lists;
}

abbrev pub decreases-loop-from : goal.decreases-loop-from
decreases-loop-from g l = l.count - l.from
