use Rattle.std.proofs.Common.{Some, sym, ◌∙◌}
use Rattle.tree.specs.Meaning.{typed}
use Rattle.interpreter.specs.Evaluation.Lending.{lent_number}
use Rattle.interpreter.proofs.evaluation.lent_operands.lent_operand.Goals as goal

pub returns-clause-value : goal.returns-clause-value
returns-clause-value g c = λ m ok k lt.
    let ty = c.in_ok-term-2.ensures.ty in
    let same = c.in_ok-term-2.ensures.same in
    c.in_ok-term.ensures.value m ok k lt
    ∙ (λ i. Some (typed (ty i) (lent_number (ty i) (sym same i) k)))
