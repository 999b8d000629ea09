use Rattle.std.proofs.Common.{◌≡◌, ◌+◌, ◌<◌, ◌≤◌, ℕ, Vec, length}
use Rattle.std.specs.Global.{Global}
use Rattle.std.specs.Prelude.{slice_index_or}
use Rattle.crew.specs.Stages.{IsDesk, IsDone, IsFresh}
use Rattle.crew.proofs.stages.work_in_turn.Given as goal

abbrev pub invariant-loop-i : goal.invariant-loop-i
invariant-loop-i g l = record {
  desk : IsDesk g.J.Run.layout (g.P.PrivateRuns.plan l.runs) (g.P.PrivateRuns.suffices l.runs) (g.D.HasDesk.desk l.desk);
  long : length l.lists ≡ length l.initial.lists;
  before : (m : ℕ) (d : Vec ℕ Global) → m < l.i → IsDone g.J.Run.layout g.J.Run.values l.seen l.from l.part (l.first + m) (slice_index_or l.lists m d);
  after : (m : ℕ) (d : Vec ℕ Global) → l.i ≤ m → m < length l.lists → IsFresh g.J.Run.layout (l.first + m) (slice_index_or l.lists m d);
}
