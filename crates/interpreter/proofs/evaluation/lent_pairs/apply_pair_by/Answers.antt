use Rattle.std.proofs.Common.{◌≡◌, ◌+◌, ◌-◌, ℕ, length, pos, ap, ◌∙◌, arith}
use Rattle.numeric.specs.Apply.{apply}
use Rattle.numeric.specs.Wrap.{wrap}
use Rattle.interpreter.specs.Evaluation.Lending.{lent, lent_bits, lent_number, times_factor}
use Rattle.interpreter.proofs.LentParts.{in_part, three_parts}
use Rattle.interpreter.proofs.evaluation.lent_pairs.apply_pair_by.Goals as goal

pub returns : goal.returns
returns g c = λ t k lt.
    let x = c.args.left in
    let y = c.args.right in
    let op = g.O.ResidueOperator.op in
    let n : ℕ = c.in_ok-common.common.start in
    let e : ℕ = c.in_ok-common.common.end in
    let m : ℕ = e - n in
    let order = c.in_ok-common.ensures.order.0 in
    let one = c.split_at_mut-low in
    let two = c.split_at_mut-middle in
    let left : length c.apply_turns.new.out ≡ n = omega arith in
    let middle : length c.apply_rows_by_factor.new.out ≡ m = omega arith in
    let given : ℕ → _ = λ i. apply op t (wrap t (pos (lent_bits x i))) (lent_number t y i) in
    three_parts (λ (i a w : ℕ). wrap t (pos w) ≡ given i) c.args.out.now one.result.1.now one.result.0.now two.result.0.now two.result.1.now
    c.apply_turns.new.out c.apply_rows_by_factor.new.out c.apply_turns-2.new.out n m one.ensures.value two.ensures.value one.ensures.front_len two.ensures.front_len left middle
    (λ j less. let is : 0 + j ≡ j = omega arith in c.apply_turns.ensures t j less ∙ ap given is)
    (λ j less. c.in_ok-apply_rows_by_factor.ensures t j less
    ∙ (λ i. apply op t (wrap t (pos (in_part x (lent c.in_ok-first.first) n m c.in_ok-common.ensures.left c.in_ok-first.ensures.count c.in_ok-first.ensures.numbers j (omega (arith, less, middle)) i)))
    (times_factor t y.factor (wrap t (pos (in_part y.operand (lent c.in_ok-second.second) n m c.in_ok-common.ensures.right c.in_ok-second.ensures.count c.in_ok-second.ensures.numbers j
    (omega (arith, less, middle)) i))))))
    (λ j less. let is : e + j ≡ n + (m + j) = omega (arith, order) in c.apply_turns-2.ensures t j less ∙ ap given is) k lt
