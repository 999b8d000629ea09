use Rattle.std.proofs.Common.{◌≡◌, ◌<◌, ℕ, length, arith, pos, ◌∙◌}
use Rattle.numeric.specs.declared.ty.Ty.{Ty}
use Rattle.numeric.specs.Apply.{apply}
use Rattle.numeric.specs.Wrap.{wrap}
use Rattle.interpreter.specs.Evaluation.Words.{word_at}
use Rattle.interpreter.proofs.EachWord.{words_next}
use Rattle.interpreter.proofs.evaluation.triple_kernels.apply_three_byte_rows.Goals as goal

pub loop-turn-preserved : goal.loop-turn-preserved
loop-turn-preserved g c =
    let l = c.loop-turn in
    let left = c.args.left.now in
    let right = c.args.right.now in
    let last = c.args.last.now in
    let op = g.O.ResidueOperator.op in
    let other = g.P.ResidueOperator.op in
    let Q : ℕ → ℕ → Type 0 = λ k w. (t : Ty) → wrap t (pos w) ≡ apply other t (apply op t (word_at t left k) (word_at t right k)) (word_at t last k) in
    let lt : l.turn < length l.out = omega arith in
    words_next Q l.turn c.args.out.now l.out _ lt l.invariant
    (λ t. c.combined_word.ensures t
    ∙ (λ i. apply other t (apply op t (wrap t (pos (c.from.ensures i))) (wrap t (pos (c.from-in-loop-turn.ensures i)))) (wrap t (pos (c.from-in-loop-turn-2.ensures i)))))
