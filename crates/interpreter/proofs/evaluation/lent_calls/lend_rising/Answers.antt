use Rattle.std.proofs.Common.{◌≡◌, ◌∷◌, ◌+◌, ℕ, ℤ, Option, Some, pos, sym, ap, ◌∙◌, rules, arith, w64, SFits}
use Rattle.std.specs.Prelude.{◌+ℤ◌}
use Rattle.std.proofs.lemmas.Int.{to_z-of_z}
use Rattle.numeric.specs.Wrap.{wrap}
use Rattle.plan.specs.Semantics.Found.{with}
use Rattle.tree.specs.declared.value.Value.{Value}
use Rattle.tree.specs.Meaning.{typed}
use Rattle.interpreter.specs.Evaluation.Lanes.{found_as}
use Rattle.interpreter.specs.Evaluation.Lending.{lent_bits}
use Rattle.interpreter.specs.declared.evaluation.lent_row.LentOperand.{LentOperand}
use Rattle.interpreter.proofs.LentParts.{bits_among}
use Rattle.interpreter.proofs.evaluation.lent_calls.lend_rising.Goals as goal

pub returns-clause-value : goal.returns-clause-value
returns-clause-value g c = λ m ok k lt.
    let z : ℤ = c.in_ok-first.first in
    let fits : SFits w64 z = search rules in
    let row = c.in_ok-row.row in
    let long = c.in_ok-row.ensures.count in
    let operand : LentOperand = record { ty = row.ty; before = 0; low = 0; numbers = row.numbers; high = 0 } in
    let value : ℕ → Option Value = λ (w : ℕ). Some (typed row.ty (wrap row.ty (pos w))) in
    let look : ℤ → Option Value = λ z. g.R.RunReader.look c.args.reader.now m c.args.name.now (z ∷ c.args.others.now) in
    let first : k ≡ 0 + k = omega arith in
    ap (λ (o : Option Value). found_as c.args.cast (with o (λ x. look x.number))) (c.in_ok-first.ensures m ok k (omega arith))
    ∙ ap (λ (n : ℤ). found_as c.args.cast (look (n +ℤ pos k))) (sym (to_z-of_z w64 z fits))
    ∙ c.in_ok-row.ensures.value m ok k (omega arith)
    ∙ ap value (sym (ap (lent_bits operand) first ∙ bits_among operand k (omega (arith, long, lt))))
