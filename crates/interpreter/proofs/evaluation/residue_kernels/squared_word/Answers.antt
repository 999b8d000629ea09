use Rattle.std.proofs.Common.{ℤ, rules, pos, ap, sym, ◌∙◌, w64, SFits}
use Rattle.std.proofs.lemmas.Int.{to_z-of_z}
use Rattle.numeric.specs.Wrap.{wrap}
use Rattle.interpreter.proofs.EachWord.{wrap_twice}
use Rattle.interpreter.proofs.evaluation.residue_kernels.squared_word.Goals as goal

pub returns : goal.returns
returns c = λ t.
    let a : ℤ = c.from.result in
    let b : ℤ = c.from-2.result in
    let x : ℤ = wrap t (pos c.args.word) in
    let a_fits : SFits w64 a = search rules in
    let b_fits : SFits w64 b = search rules in
    let twice = sym (wrap_twice t (pos c.args.word)) in
    c.residue.ensures t x x (ap (wrap t) (to_z-of_z w64 a a_fits ∙ c.from.ensures) ∙ twice) (ap (wrap t) (to_z-of_z w64 b b_fits ∙ c.from-2.ensures) ∙ twice)
