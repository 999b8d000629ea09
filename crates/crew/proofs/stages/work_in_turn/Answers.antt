use Rattle.std.proofs.Common.{◌≡◌, ◌+◌, ◌<◌, ◌∙◌, ℕ, ℤ, List, Vec, get_or, length, set, arith}
use Rattle.std.specs.Global.{Global}
use Rattle.std.proofs.lemmas.List.{length-set}
use Rattle.board.specs.Layout.{Layout}
use Rattle.board.specs.Seen.{Seen}
use Rattle.crew.specs.Stages.{IsDone, IsFresh}
use Rattle.crew.proofs.Staged.{done_still, one_done, rest_left}
use Rattle.crew.proofs.stages.work_in_turn.Goals as goal

pub loop-i-preserved : goal.loop-i-preserved
loop-i-preserved g c =
    let L : Layout = g.J.Run.layout in
    let V : List ℤ = g.J.Run.values in
    let s : Seen = c.args.seen.now in
    let had = c.loop-i.invariant in
    let i : ℕ = c.loop-i.i in
    let items : List (Vec ℕ Global) = c.loop-i.lists in
    let list : Vec ℕ Global = c.compute_apart.new.list in
    let old : List ℕ = c.loop-i.part in
    let new : List ℕ = c.compute_apart.new.part in
    let there : i < length items = omega (arith, c.loop-i-test.true, had.long) in
    let long : length (set items i list) ≡ length items = length-set items i list in
    record {
      desk = c.compute_apart.ensures.desk;
      long = long ∙ had.long;
      before = one_done (λ m v. IsDone L V s c.args.from new (c.args.first + m) v) items i list there
          (λ m d lt. done_still L V s c.args.from old new (c.args.first + m) (get_or items m d) c.compute_apart.ensures.more (had.before m d lt)) c.compute_apart.ensures.done;
      after = λ m d le lt. rest_left (λ m v. IsFresh L (c.args.first + m) v) items i list had.after m d le (omega (arith, lt, long));
    }

pub compute_apart-requires-clause-needed : goal.compute_apart-requires-clause-needed
compute_apart-requires-clause-needed g c κs within j there =
    c.requires.can (c.args.first + c.loop-i.i) (omega arith) (omega (arith, c.loop-i-test.true, c.loop-i.invariant.long)) j there
