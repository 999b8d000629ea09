use Rattle.std.proofs.Common.{◌≡◌, ◌<◌, ℕ, ℤ, length, sym, arith, rules, pos, ap, ◌∙◌, w64, to_z, of_z, SFits}
use Rattle.std.proofs.lemmas.Int.{to_z-of_z}
use Rattle.numeric.specs.declared.op.Op.TheVariants.{Mul}
use Rattle.numeric.specs.declared.ty.Ty.{Ty}
use Rattle.numeric.specs.Apply.{apply}
use Rattle.numeric.specs.Wrap.{wrap}
use Rattle.interpreter.specs.Evaluation.Words.{bits_at, word_at}
use Rattle.interpreter.proofs.EachWord.{words_next, wrap_twice}
use Rattle.interpreter.proofs.LentParts.{product_wrapped}
use Rattle.interpreter.proofs.evaluation.byte_kernels.apply_scaled_bytes.Goals as goal

pub loop-turn-preserved : goal.loop-turn-preserved
loop-turn-preserved g c =
    let l = c.loop-turn in
    let left = c.args.out.now in
    let right = c.args.right.now in
    let f : ℤ = c.args.factor.value in
    let P : ℕ → ℕ → Type 0 = λ k w. (t : Ty) → wrap t (pos w) ≡ apply g.O.ResidueOperator.op t (word_at t left k) (apply Mul t f (word_at t right k)) in
    let lt : l.turn < length l.out = omega arith in
    let same : bits_at l.out l.turn ≡ bits_at left l.turn = l.invariant.later l.turn (omega arith) in
    let a : ℤ = c.from-in-loop-turn.result in
    let b : ℤ = c.from-in-loop-turn-2.result in
    let a_fits : SFits w64 a = search rules in
    let b_fits : SFits w64 b = search rules in
    let one : to_z w64 (of_z w64 a) ≡ pos (bits_at left l.turn) = to_z-of_z w64 a a_fits ∙ c.from-in-loop-turn.ensures ∙ ap (λ (n : ℕ). pos n) same in
    let other : to_z w64 (of_z w64 b) ≡ pos c.word_times-product.result = to_z-of_z w64 b b_fits ∙ c.from-in-loop-turn-2.ensures in
    words_next P l.turn c.args.out.now l.out _ lt l.invariant (λ t. c.residue.ensures t (word_at t left l.turn) (apply Mul t f (word_at t right l.turn))
    (ap (wrap t) one ∙ sym (wrap_twice t (pos (bits_at left l.turn))))
    (ap (wrap t) other ∙ c.word_times-product.ensures t ∙ ap (λ (n : ℕ). apply Mul t f (wrap t (pos n))) c.from.ensures ∙ sym (product_wrapped t f (word_at t right l.turn))))
