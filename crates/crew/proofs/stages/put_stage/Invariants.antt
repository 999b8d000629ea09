use Rattle.std.proofs.Common.{◌+◌, ◌<◌, ◌≤◌, ℕ, Vec, length}
use Rattle.std.specs.Global.{Global}
use Rattle.std.specs.Prelude.{slice_index_or}
use Rattle.crew.specs.Stages.{ArePut, IsLeft}
use Rattle.crew.proofs.stages.put_stage.Given as goal

abbrev pub invariant-loop-i : goal.invariant-loop-i
invariant-loop-i g l = record {
  put : ArePut g.J.Run.layout g.J.Run.values l.sheet (l.first + l.i);
  left : (m : ℕ) (d : Vec ℕ Global) → l.i ≤ m → m < length l.lists → IsLeft g.J.Run.layout g.J.Run.values l.sheet (l.first + m) (slice_index_or l.lists m d).items;
}
