use Rattle.std.proofs.Common.{ℤ, rules, pos, ap, sym, ◌∙◌, w64, SFits}
use Rattle.std.proofs.lemmas.Int.{to_z-of_z}
use Rattle.numeric.specs.declared.op.Op.TheVariants.{Mul}
use Rattle.numeric.specs.Apply.{apply}
use Rattle.numeric.specs.Wrap.{wrap}
use Rattle.interpreter.proofs.EachWord.{wrap_twice}
use Rattle.interpreter.proofs.LentParts.{product_wrapped}
use Rattle.interpreter.proofs.evaluation.pair_kernels.multiple_word.Goals as goal

pub returns : goal.returns
returns g c = λ t.
    let a : ℤ = c.from.result in
    let b : ℤ = c.from-2.result in
    let d : ℤ = c.from-3.result in
    let e : ℤ = c.from-4.result in
    let f : ℤ = c.args.factor.value in
    let x : ℤ = wrap t (pos c.args.word) in
    let y : ℤ = wrap t (pos c.args.left) in
    let z : ℤ = wrap t (pos c.args.right) in
    let a_fits : SFits w64 a = search rules in
    let b_fits : SFits w64 b = search rules in
    let d_fits : SFits w64 d = search rules in
    let e_fits : SFits w64 e = search rules in
    let sum = c.residue-sum.ensures t y z (ap (wrap t) (to_z-of_z w64 a a_fits ∙ c.from.ensures) ∙ sym (wrap_twice t (pos c.args.left)))
    (ap (wrap t) (to_z-of_z w64 b b_fits ∙ c.from-2.ensures) ∙ sym (wrap_twice t (pos c.args.right))) in
    let product = c.word_times-product.ensures t ∙ ap (λ (w : ℤ). apply Mul t f w) sum in
    c.residue.ensures t x (apply Mul t f (apply g.P.ResidueOperator.op t y z)) (ap (wrap t) (to_z-of_z w64 d d_fits ∙ c.from-3.ensures) ∙ sym (wrap_twice t (pos c.args.word)))
    (ap (wrap t) (to_z-of_z w64 e e_fits ∙ c.from-4.ensures) ∙ product ∙ sym (product_wrapped t f (apply g.P.ResidueOperator.op t y z)))
