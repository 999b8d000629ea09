use Rattle.std.proofs.Common.{◌≡◌, ◌+◌, ℕ, ℤ, length, pos, sym, ap, ◌∙◌, arith}
use Rattle.numeric.specs.Apply.{apply}
use Rattle.numeric.specs.Wrap.{wrap}
use Rattle.interpreter.specs.Evaluation.Lending.{lent, lent_bits}
use Rattle.interpreter.proofs.LentParts.{bits_before, bits_among, bits_behind, three_parts}
use Rattle.interpreter.proofs.evaluation.lent_operands.apply_operand_to.Goals as goal

pub returns : goal.returns
returns g c = λ t k lt.
    let o = c.args.right in
    let op = g.O.ResidueOperator.op in
    let n : ℕ = o.before in
    let m : ℕ = length (lent o.numbers) in
    let x : ℤ = c.args.left.value in
    let first = c.split_at_mut-low in
    let second = c.split_at_mut-middle in
    let wide : length second.result.0.now ≡ m = second.ensures.front_len ∙ c.count.ensures in
    let left : length c.fill_result.new.out ≡ n = omega arith in
    let middle : length c.apply_numbers_to.new.out ≡ m = omega (arith, wide) in
    three_parts (λ (i a w : ℕ). wrap t (pos w) ≡ apply op t x (wrap t (pos (lent_bits o i)))) c.args.out.now first.result.1.now first.result.0.now second.result.0.now second.result.1.now
    c.fill_result.new.out c.apply_numbers_to.new.out c.fill_result-2.new.out n m first.ensures.value second.ensures.value first.ensures.front_len wide left middle
    (λ j less. c.fill_result.ensures t j less ∙ ap (λ (w : ℕ). apply op t x (wrap t (pos w))) (sym (bits_before o j (omega (arith, less, left)))))
    (λ j less. c.apply_numbers_to.ensures t j less ∙ ap (λ (w : ℕ). apply op t x (wrap t (pos w))) (sym (bits_among o j (omega (arith, less, middle)))))
    (λ j less. c.fill_result-2.ensures t j less ∙ ap (λ (w : ℕ). apply op t x (wrap t (pos w))) (sym (bits_behind o (n + (m + j)) (omega arith)))) k lt
