use Rattle.std.proofs.Common.{pos, sym, ap, ◌∙◌, arith, Some}
use Rattle.numeric.specs.Wrap.{wrap}
use Rattle.tree.specs.declared.value.Value.{Value}
use Rattle.tree.specs.Meaning.{typed}
use Rattle.tree.specs.Term.{term_of}
use Rattle.interpreter.specs.Evaluation.Lending.{lent_bits, lent_number}
use Rattle.interpreter.proofs.FoundRuns.{found_binary}
use Rattle.interpreter.proofs.evaluation.lent_pairs.lent_both.Goals as goal

pub returns : goal.returns
returns g c = λ m ok k lt.
    let vs = g.R.RunReader.variables c.args.reader.now k in
    let look = g.R.RunReader.look c.args.reader.now m in
    let x = c.in_ok-first.first in
    let y = c.in_ok-second.second in
    found_binary vs look c.args.op (term_of c.args.left.now) (term_of c.args.right.now) (typed x.ty (wrap x.ty (pos (lent_bits x k)))) (typed y.operand.ty (lent_number y.operand.ty y k))
    (c.in_ok-first.ensures.value m ok k (omega arith)) (c.in_ok-second.ensures.value m ok k (omega arith))
    ∙ ap (λ (v : Value). Some v) (sym (c.in_ok-ty.ensures k lt))
