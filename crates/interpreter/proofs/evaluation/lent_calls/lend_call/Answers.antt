use Rattle.std.proofs.Common.{◌≡◌, ◌≤◌, ◌∷◌, [], ℤ, List, Some, length, take, sym, ap, ◌∙◌, rules, arith, w64, SFits}
use Rattle.std.proofs.lemmas.Bool.{ltb-false}
use Rattle.std.proofs.lemmas.Int.{to_z-of_z}
use Rattle.interpreter.proofs.UsualCalls.{of_first}
use Rattle.interpreter.proofs.evaluation.lent_calls.lend_call.Goals as goal

pub returns-clause-value : goal.returns-clause-value
returns-clause-value g c = λ m ok k lt.
    let vs = g.R.RunReader.variables c.args.reader.now k in
    let look = g.R.RunReader.look c.args.reader.now m in
    let at = c.args.at.now in
    let long : 1 ≤ length at = omega (arith, ltb-false) in
    let n = c.in_ok-later.later in
    let zs : List ℤ = c.in_ok-others.others.now in
    let y : ℤ = n.second in
    let z : ℤ = n.third in
    let y_fits : SFits w64 y = search rules in
    let z_fits : SFits w64 z = search rules in
    let same : take n.count (y ∷ z ∷ []) ≡ zs = (λ i. take n.count (sym (to_z-of_z w64 y y_fits) i ∷ sym (to_z-of_z w64 z z_fits) i ∷ [])) ∙ sym c.in_ok-others.ensures.same in
    of_first vs look c.args.cast c.args.name.now at c.first-item.result zs long c.first-item.is (c.in_ok-later.ensures m ok k (omega arith) ∙ ap (λ (xs : List ℤ). Some xs) same)
    ∙ c.in_ok-operand.ensures.value m ok k lt
