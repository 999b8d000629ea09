use Rattle.std.proofs.Common.{◌≡◌, ◌∷◌, ◌+◌, ◌-◌, ℕ, ℤ, Option, length, pos, sym, ap, ◌∙◌, rules, arith, w64, to_z, of_z, SFits}
use Rattle.std.specs.Prelude.{◌+ℤ◌}
use Rattle.std.proofs.lemmas.Int.{ints, to_z-of_z}
use Rattle.tree.specs.declared.value.Value.{Value}
use Rattle.interpreter.specs.Evaluation.Lanes.{clamped_number, found_as}
use Rattle.interpreter.specs.Evaluation.Lending.{lent}
use Rattle.interpreter.specs.declared.evaluation.lent_row.LentOperand.{LentOperand}
use Rattle.interpreter.proofs.LentParts.{lent_bent}
use Rattle.interpreter.proofs.evaluation.lent_calls.lend_bent.Goals as goal

pub returns-clause-value : goal.returns-clause-value
returns-clause-value g c = λ m ok k lt.
    let b = c.in_ok-bends.bends in
    let e = c.in_ok-bends.ensures in
    let row = c.in_ok-row.row in
    let order = e.order.0 in
    let z : ℤ = b.start in
    let fits : SFits w64 z = search rules in
    let start : ℤ = to_z w64 (of_z w64 z) in
    let is = to_z-of_z w64 z fits in
    let last : ℕ = b.after - b.before - 1 in
    let find : ℤ → Option Value = λ (n : ℤ). found_as c.args.cast (g.R.RunReader.look c.args.reader.now m c.args.name.now (n ∷ c.args.others.now)) in
    let operand : LentOperand = record { ty = row.ty; before = b.before; low = c.in_ok-low.low; numbers = row.numbers; high = c.in_ok-high.high } in
    let long : length (lent row.numbers) ≡ b.after - b.before = c.in_ok-row.ensures.count in
    lent_bent find (clamped_number c.args.ramp) operand start last c.args.count (omega (arith, long, order)) c.in_ok-low.ensures.word c.in_ok-high.ensures.word
    (λ j less. e.low j less ∙ (omega (arith, ints, is)))
    (λ j less. e.rising j (omega (arith, long, less)) ∙ ap (λ (n : ℤ). n +ℤ pos j) (sym is))
    (λ j from to. e.high j last (omega (arith, long, from)) to (omega (arith, order)) ∙ ap (λ (n : ℤ). n +ℤ pos last) (sym is))
    (λ j less. c.in_ok-row.ensures.value m ok j (omega (arith, long, less))) k lt
