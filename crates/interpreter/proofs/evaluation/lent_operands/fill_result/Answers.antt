use Rattle.std.proofs.Common.{◌≡◌, ℤ, pos, sym, ap, ◌∙◌, rules, w64, SFits, to_z, of_z}
use Rattle.std.proofs.lemmas.Int.{to_z-of_z}
use Rattle.numeric.specs.Wrap.{wrap}
use Rattle.interpreter.proofs.EachWord.{wrap_twice}
use Rattle.interpreter.proofs.evaluation.lent_operands.fill_result.Goals as goal

pub returns : goal.returns
returns g c = λ t k lt.
    let a : ℤ = c.args.left.value in
    let b : ℤ = c.from.result in
    let a_fits : SFits w64 a = search rules in
    let b_fits : SFits w64 b = search rules in
    let right : to_z w64 (of_z w64 b) ≡ pos c.args.right = to_z-of_z w64 b b_fits ∙ c.from.ensures in
    ap (λ w. wrap t (pos w)) (c.fill_words.ensures k lt)
    ∙ c.residue.ensures t a (wrap t (pos c.args.right)) (ap (wrap t) (to_z-of_z w64 a a_fits)) (ap (wrap t) right ∙ sym (wrap_twice t (pos c.args.right)))
