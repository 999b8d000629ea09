use Rattle.std.proofs.Common.{◌≡◌, ◌+◌, ℕ, ℤ, List, get_or, subst, arith}
use Rattle.board.specs.Layout.{Layout}
use Rattle.crew.specs.Stages.{ArePut}
use Rattle.crew.proofs.InOrder.{one_piece_more}
use Rattle.crew.proofs.Staged.{left_still}
use Rattle.crew.proofs.stages.put_stage.Goals as goal

pub loop-i-preserved : goal.loop-i-preserved
loop-i-preserved g c =
    let L : Layout = g.J.Run.layout in
    let V : List ℤ = g.J.Run.values in
    let had = c.loop-i.invariant in
    let old : List ℕ = c.loop-i.sheet in
    let new : List ℕ = c.put_left.new.sheet in
    let next : c.args.first + c.loop-i.i + 1 ≡ c.args.first + (c.loop-i.i + 1) = omega arith in
    record {
      put = subst (λ (n : ℕ). ArePut L V new n) next (one_piece_more L V old new (c.args.first + c.loop-i.i) had.put c.put_left.ensures.more c.put_left.ensures.put);
      left = λ m d le lt. left_still L V old new (c.args.first + m) (get_or c.args.lists.now m d).items c.put_left.ensures.more (had.left m d (omega (arith, le)) lt);
    }

pub loop-i-init : goal.loop-i-init
loop-i-init g c =
    let none : c.args.first ≡ c.args.first + 0 = omega arith in
    record {
      put = subst (λ (n : ℕ). ArePut g.J.Run.layout g.J.Run.values c.args.sheet.now n) none c.requires.put;
      left = λ m d le lt. c.requires.left m d lt;
    }

pub overflow_add-first : goal.overflow_add-first
overflow_add-first g c = omega (arith, c.requires.inside, c.loop-i-test.true, c.pieces.ensures.few, c.pieces.ensures.count)

pub returns : goal.returns
returns g c j lt = c.loop-i.invariant.put j (omega (arith, lt, c.loop-i-test.false))
