use Rattle.std.proofs.Common.{◌≡◌, ◌+◌, ◌<◌, ℕ, ℤ, length, sym, arith, rules, pos, ap, ◌∙◌, w64, to_z, of_z, SFits}
use Rattle.std.proofs.lemmas.Int.{to_z-of_z}
use Rattle.numeric.specs.declared.ty.Ty.{Ty}
use Rattle.numeric.specs.Apply.{apply}
use Rattle.numeric.specs.Wrap.{wrap}
use Rattle.interpreter.specs.Evaluation.Lending.{lent_bits, lent_number, times_factor}
use Rattle.interpreter.proofs.EachWord.{words_next, wrap_twice}
use Rattle.interpreter.proofs.LentParts.{times_wrapped}
use Rattle.interpreter.proofs.evaluation.lent_pairs.apply_turns.Goals as goal

pub loop-turn-preserved : goal.loop-turn-preserved
loop-turn-preserved g c =
    let l = c.loop-turn in
    let x : ℕ → ℕ = λ k. lent_bits c.args.left (c.args.start + k) in
    let y : ℕ → ℕ = λ k. lent_bits c.args.right.operand (c.args.start + k) in
    let P : ℕ → ℕ → Type 0 = λ k w. (t : Ty) → wrap t (pos w) ≡ apply g.O.ResidueOperator.op t (wrap t (pos (x k))) (lent_number t c.args.right (c.args.start + k)) in
    let lt : l.turn < length l.out = omega arith in
    let a : ℤ = c.from.result in
    let b : ℤ = c.from-in-loop-turn.result in
    let a_fits : SFits w64 a = search rules in
    let b_fits : SFits w64 b = search rules in
    let one : to_z w64 (of_z w64 a) ≡ pos (x l.turn) = to_z-of_z w64 a a_fits ∙ c.from.ensures ∙ ap (λ (n : ℕ). pos n) {y = x l.turn} c.bits-first.ensures in
    let other : to_z w64 (of_z w64 b) ≡ pos c.word_by_factor-second.result = to_z-of_z w64 b b_fits ∙ c.from-in-loop-turn.ensures in
    words_next P l.turn c.args.out.now l.out _ lt l.invariant (λ t. c.residue.ensures t (wrap t (pos (x l.turn))) (lent_number t c.args.right (c.args.start + l.turn))
    (ap (wrap t) one ∙ sym (wrap_twice t (pos (x l.turn))))
    (ap (wrap t) other ∙ c.word_by_factor-second.ensures t ∙ ap (λ (n : ℕ). times_factor t c.args.right.factor (wrap t (pos n))) {y = y l.turn} c.bits.ensures
    ∙ sym (times_wrapped t c.args.right.factor (pos (y l.turn)))))
