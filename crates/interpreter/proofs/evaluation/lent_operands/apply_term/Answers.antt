use Rattle.std.proofs.Common.{◌≡◌, ◌+◌, ℕ, ℤ, List, length, pos, sym, ap, ◌∙◌, arith}
use Rattle.numeric.specs.Apply.{apply}
use Rattle.numeric.specs.Wrap.{wrap}
use Rattle.interpreter.specs.Evaluation.Lending.{lent, lent_number, times_factor}
use Rattle.interpreter.specs.Evaluation.Words.{word_at}
use Rattle.interpreter.proofs.LentParts.{bits_before, bits_among, bits_behind, three_parts}
use Rattle.interpreter.proofs.evaluation.lent_operands.apply_term.Goals as goal

pub returns : goal.returns
returns g c = λ t k lt.
    let x = c.args.right in
    let o = x.operand in
    let op = g.O.ResidueOperator.op in
    let n : ℕ = o.before in
    let m : ℕ = length (lent o.numbers) in
    let first = c.split_at_mut-low in
    let second = c.split_at_mut-middle in
    let low : List ℕ = first.result.0.now in
    let mid : List ℕ = second.result.0.now in
    let high : List ℕ = second.result.1.now in
    let wide : length mid ≡ m = second.ensures.front_len ∙ c.count.ensures in
    let left : length c.apply_word.new.out ≡ n = omega arith in
    let middle : length c.apply_by_factor.new.out ≡ m = omega (arith, wide) in
    let many : ℕ → ℤ = λ w. times_factor t x.factor (wrap t (pos w)) in
    three_parts (λ (i a w : ℕ). wrap t (pos w) ≡ apply op t (wrap t (pos a)) (lent_number t x i)) c.args.out.now first.result.1.now low mid high
    c.apply_word.new.out c.apply_by_factor.new.out c.apply_word-2.new.out n m first.ensures.value second.ensures.value first.ensures.front_len wide left middle
    (λ j less. c.apply_word.ensures t j less ∙ ap (λ (z : ℤ). apply op t (word_at t low j) z) (c.word_by_factor.ensures t ∙ ap many (sym (bits_before o j (omega (arith, less, left))))))
    (λ j less. c.apply_by_factor.ensures t j less ∙ ap (λ (z : ℤ). apply op t (word_at t mid j) z) (ap many (sym (bits_among o j (omega (arith, less, middle))))))
    (λ j less. c.apply_word-2.ensures t j less ∙ ap (λ (z : ℤ). apply op t (word_at t high j) z) (c.word_by_factor-2.ensures t ∙ ap many (sym (bits_behind o (n + (m + j)) (omega arith))))) k lt
