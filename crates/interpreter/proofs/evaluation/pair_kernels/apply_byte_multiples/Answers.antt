use Rattle.std.proofs.Common.{◌≡◌, ◌<◌, ℕ, length, arith, pos, ◌∙◌}
use Rattle.numeric.specs.declared.op.Op.TheVariants.{Mul}
use Rattle.numeric.specs.declared.ty.Ty.{Ty}
use Rattle.numeric.specs.Apply.{apply}
use Rattle.numeric.specs.Wrap.{wrap}
use Rattle.interpreter.specs.Evaluation.Words.{bits_at, word_at}
use Rattle.interpreter.proofs.EachWord.{words_next}
use Rattle.interpreter.proofs.evaluation.pair_kernels.apply_byte_multiples.Goals as goal

pub loop-turn-preserved : goal.loop-turn-preserved
loop-turn-preserved g c =
    let l = c.loop-turn in
    let old = c.args.out.now in
    let left = c.args.left.now in
    let right = c.args.right.now in
    let f = c.args.factor.value in
    let op = g.O.ResidueOperator.op in
    let inner = g.P.ResidueOperator.op in
    let Q : ℕ → ℕ → Type 0 = λ k w. (t : Ty) → wrap t (pos w) ≡ apply op t (word_at t old k) (apply Mul t f (apply inner t (word_at t left k) (word_at t right k))) in
    let lt : l.turn < length l.out = omega arith in
    let same : bits_at l.out l.turn ≡ bits_at old l.turn = l.invariant.later l.turn (omega arith) in
    words_next Q l.turn old l.out _ lt l.invariant
    (λ t. c.multiple_word.ensures t
    ∙ (λ i. apply op t (wrap t (pos (same i))) (apply Mul t f (apply inner t (wrap t (pos (c.from-first.ensures i))) (wrap t (pos (c.from-second.ensures i)))))))
