use Rattle.std.proofs.Common.{◌≡◌, ◌+◌, ◌<◌, ℕ, length, arith, pos, ap, ◌∙◌}
use Rattle.numeric.specs.declared.ty.Ty.{Ty}
use Rattle.numeric.specs.Apply.{apply}
use Rattle.numeric.specs.Wrap.{wrap}
use Rattle.interpreter.specs.Evaluation.Lending.{lent_bits, lent_number, times_factor}
use Rattle.interpreter.proofs.EachWord.{words_next}
use Rattle.interpreter.proofs.evaluation.lent_triples.apply_three_turns.Goals as goal

pub loop-turn-preserved : goal.loop-turn-preserved
loop-turn-preserved g c =
    let l = c.loop-turn in
    let op = g.O.ResidueOperator.op in
    let other = g.P.ResidueOperator.op in
    let x : ℕ → ℕ = λ k. lent_bits c.args.left (c.args.start + k) in
    let y : ℕ → ℕ = λ k. lent_bits c.args.right.operand (c.args.start + k) in
    let z : ℕ → ℕ = λ k. lent_bits c.args.last (c.args.start + k) in
    let Q : ℕ → ℕ → Type 0 = λ k w. (t : Ty) → wrap t (pos w) ≡ apply other t (apply op t (wrap t (pos (x k))) (lent_number t c.args.right (c.args.start + k))) (wrap t (pos (z k))) in
    let lt : l.turn < length l.out = omega arith in
    let first : c.bits-first.result ≡ x l.turn = c.bits-first.ensures in
    let second : c.bits.result ≡ y l.turn = c.bits.ensures in
    let third : c.bits-third.result ≡ z l.turn = c.bits-third.ensures in
    words_next Q l.turn c.args.out.now l.out _ lt l.invariant (λ t.
    let term = c.word_by_factor-second.ensures t ∙ ap (λ (n : ℕ). times_factor t c.args.right.factor (wrap t (pos n))) second in
    c.combined_word.ensures t ∙ (λ i. apply other t (apply op t (wrap t (pos (first i))) (term i)) (wrap t (pos (third i)))))
