use Rattle.std.proofs.Common.{ℤ, rules, pos, ap, sym, ◌∙◌, w64, SFits}
use Rattle.std.proofs.lemmas.Int.{to_z-of_z}
use Rattle.numeric.specs.declared.op.Op.TheVariants.{Sub}
use Rattle.numeric.specs.Apply.{apply, exact}
use Rattle.numeric.specs.Wrap.{wrap}
use Rattle.interpreter.proofs.EachWord.{wrap_twice}
use Rattle.interpreter.proofs.evaluation.residue_kernels.complemented_word.Goals as goal

pub returns : goal.returns
returns g c = λ t.
    let a : ℤ = c.from.result in
    let b : ℤ = c.from-2.result in
    let d : ℤ = c.from-3.result in
    let v : ℤ = c.args.value.value in
    let x : ℤ = wrap t (pos c.args.word) in
    let a_fits : SFits w64 a = search rules in
    let b_fits : SFits w64 b = search rules in
    let d_fits : SFits w64 d = search rules in
    let v_fits : SFits w64 v = search rules in
    let twice = sym (wrap_twice t (pos c.args.word)) in
    let rest = c.residue-rest.ensures t v x (ap (wrap t) (to_z-of_z w64 v v_fits)) (ap (wrap t) (to_z-of_z w64 a a_fits ∙ c.from.ensures) ∙ twice) in
    c.residue.ensures t x (apply Sub t v x) (ap (wrap t) (to_z-of_z w64 b b_fits ∙ c.from-2.ensures) ∙ twice)
    (ap (wrap t) (to_z-of_z w64 d d_fits ∙ c.from-3.ensures) ∙ rest ∙ sym (wrap_twice t (exact Sub v x)))
