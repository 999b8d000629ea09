use Rattle.std.proofs.Common.{◌≡◌, ◌+◌, ◌-◌, ◌<◌, ℕ, List, length, pos, ap, ◌∙◌, arith}
use Rattle.numeric.specs.declared.op.Op.TheVariants.{Mul}
use Rattle.numeric.specs.Apply.{apply}
use Rattle.numeric.specs.Wrap.{wrap}
use Rattle.interpreter.specs.Evaluation.Lending.{lent, lent_bits}
use Rattle.interpreter.specs.Evaluation.Words.{bits_at}
use Rattle.interpreter.proofs.LentParts.{in_part, three_parts}
use Rattle.interpreter.proofs.evaluation.lent_seconds.apply_pair_by.Goals as goal

pub returns : goal.returns
returns g c = λ t k lt.
    let x = c.args.left in
    let y = c.args.right in
    let f = c.args.factor.value in
    let op = g.O.ResidueOperator.op in
    let inner = g.P.ResidueOperator.op in
    let n : ℕ = c.in_ok-common.common.start in
    let e : ℕ = c.in_ok-common.common.end in
    let m : ℕ = e - n in
    let h = c.in_ok-common.ensures in
    let order = h.order.0 in
    let one = c.split_at_mut-low in
    let two = c.split_at_mut-middle in
    let low : List ℕ = one.result.0.now in
    let mid : List ℕ = two.result.0.now in
    let high : List ℕ = two.result.1.now in
    let left : length c.apply_turns.new.out ≡ n = omega arith in
    let middle : length c.apply_alike.new.out ≡ m = omega arith in
    let given : ℕ → ℕ → _ = λ a i. apply op t (wrap t (pos a)) (apply Mul t f (apply inner t (wrap t (pos (lent_bits x i))) (wrap t (pos (lent_bits y i))))) in
    three_parts (λ (i a w : ℕ). wrap t (pos w) ≡ given a i) c.args.out.now one.result.1.now low mid high
    c.apply_turns.new.out c.apply_alike.new.out c.apply_turns-2.new.out n m one.ensures.value two.ensures.value one.ensures.front_len two.ensures.front_len left middle
    (λ j less. let is : 0 + j ≡ j = omega arith in c.apply_turns.ensures t j less ∙ ap (given (bits_at low j)) is)
    (λ j less. let inside : j < m = omega (arith, less, middle) in
    let first = in_part x (lent c.in_ok-first.first) n m h.left c.in_ok-first.ensures.count c.in_ok-first.ensures.numbers j inside in
    let second = in_part y (lent c.in_ok-second.second) n m h.right c.in_ok-second.ensures.count c.in_ok-second.ensures.numbers j inside in
    c.in_ok-apply_alike.ensures t j less ∙ (λ i. apply op t (wrap t (pos (bits_at mid j))) (apply Mul t f (apply inner t (wrap t (pos (first i))) (wrap t (pos (second i)))))))
    (λ j less. let is : e + j ≡ n + (m + j) = omega (arith, order) in c.apply_turns-2.ensures t j less ∙ ap (given (bits_at high j)) is) k lt
