use Rattle.std.proofs.Common.{◌∷◌, ℤ, Option, pos, sym, ap, ◌∙◌, rules, arith, w64, SFits}
use Rattle.std.specs.Prelude.{◌+ℤ◌}
use Rattle.std.proofs.lemmas.Int.{to_z-of_z}
use Rattle.plan.specs.Semantics.Found.{with}
use Rattle.tree.specs.declared.value.Value.{Value}
use Rattle.interpreter.specs.Evaluation.Lanes.{found_as}
use Rattle.interpreter.proofs.evaluation.usual_calls.rising_row.Goals as goal

pub returns : goal.returns
returns g c = λ m ok k lt.
    let z : ℤ = c.in_ok-first.first in
    let fits : SFits w64 z = search rules in
    let look : ℤ → Option Value = λ z. g.R.RunReader.look c.args.reader.now m c.args.name.now (z ∷ c.args.others.now) in
    ap (λ (o : Option Value). found_as c.args.cast (with o (λ x. look x.number))) (c.in_ok-first.ensures m ok k (omega arith))
    ∙ ap (λ (n : ℤ). found_as c.args.cast (look (n +ℤ pos k))) (sym (to_z-of_z w64 z fits))
    ∙ c.in_ok-ty.ensures m ok k lt
