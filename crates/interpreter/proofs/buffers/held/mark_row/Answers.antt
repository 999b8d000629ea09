use Rattle.std.proofs.Common.{◌≡◌, ◌+◌, suc, ap, ◌∙◌, arith, slice_set}
use Rattle.interpreter.specs.Buffers.SetRows.{set_row}
use Rattle.interpreter.proofs.buffers.held.mark_row.Goals as goal

pub loop-turn-preserved : goal.loop-turn-preserved
loop-turn-preserved c =
    let l = c.loop-turn in
    let more : suc l.turn ≡ l.turn + 1 = omega arith in
    (λ i. slice_set (l.invariant i) (c.place_behind.ensures i) c.args.mark) ∙ ap (set_row (λ k. c.args.mark) c.args.place c.args.marks.now) more
