use Rattle.std.proofs.Common.{◌≡◌, ◌∷◌, ◌-◌, ℕ, ℤ, Option, Some, length, pos, sym, ap, ◌∙◌, rules, arith, w64, to_z, of_z, SFits}
use Rattle.std.specs.Prelude.{◌+ℤ◌}
use Rattle.std.proofs.lemmas.Int.{ints, to_z-of_z}
use Rattle.numeric.specs.Wrap.{wrap}
use Rattle.tree.specs.declared.value.Value.{Value}
use Rattle.tree.specs.Meaning.{typed}
use Rattle.interpreter.specs.Evaluation.Lanes.{clamped_number, found_as}
use Rattle.interpreter.specs.Evaluation.Words.{bits_at}
use Rattle.interpreter.proofs.ClampedRamps.{along_parts}
use Rattle.interpreter.proofs.evaluation.looking.look_bent.Goals as goal

pub returns : goal.returns
returns g c = λ m ok k lt.
    let b = c.in_ok-bends.bends in
    let e = c.in_ok-bends.ensures in
    let ty = c.in_ok-ty.ty in
    let order = e.order.0 in
    let z : ℤ = b.start in
    let fits : SFits w64 z = search rules in
    let start : ℤ = to_z w64 (of_z w64 z) in
    let is = to_z-of_z w64 z fits in
    let last : ℕ = b.after - b.before - 1 in
    let find : ℤ → Option Value = λ (n : ℤ). found_as c.args.cast (g.R.RunReader.look c.args.reader.now m c.args.name.now (n ∷ c.args.others.now)) in
    let value : ℕ → Option Value = λ (w : ℕ). Some (typed ty (wrap ty (pos w))) in
    let wide : length c.look_row.new.out ≡ b.after - b.before = omega arith in
    along_parts find ty (clamped_number c.args.ramp) b.before b.after
    (start +ℤ pos 0) (start +ℤ pos last) start c.fill_words.new.out c.look_row.new.out c.fill_words-2.new.out (omega arith) wide (omega (arith, order))
    (λ j less. e.low j less ∙ (omega (arith, ints, is)))
    (λ j less. e.rising j less ∙ ap (λ (n : ℤ). n +ℤ pos j) (sym is))
    (λ j from less. e.high j last from (omega (arith, less)) (omega (arith, order)) ∙ ap (λ (n : ℤ). n +ℤ pos last) (sym is))
    (λ j less. c.in_ok-ty.ensures m ok 0 (omega (arith, order, wide)) ∙ ap value (sym (c.fill_words.ensures j less)))
    (c.in_ok-ty.ensures m ok)
    (λ j less. c.in_ok-ty.ensures m ok last (omega (arith, order, wide)) ∙ ap (λ (n : ℕ). value (bits_at c.look_row.new.out (n - 1))) (sym wide) ∙ ap value (sym (c.fill_words-2.ensures j less))) k lt
