use Rattle.std.proofs.Common.{◌≡◌, ℤ, pos, sym, ap, ◌∙◌, rules, w64, SFits, to_z, of_z}
use Rattle.std.proofs.lemmas.Int.{to_z-of_z}
use Rattle.numeric.specs.Wrap.{wrap}
use Rattle.interpreter.proofs.EachWord.{wrap_twice}
use Rattle.interpreter.proofs.evaluation.residue_kernels.word_times.Goals as goal

pub returns : goal.returns
returns c = λ t.
    let a : ℤ = c.args.factor.value in
    let b : ℤ = c.from.result in
    let a_fits : SFits w64 a = search rules in
    let b_fits : SFits w64 b = search rules in
    let right : to_z w64 (of_z w64 b) ≡ pos c.args.word = to_z-of_z w64 b b_fits ∙ c.from.ensures in
    c.residue.ensures t a (wrap t (pos c.args.word)) (ap (wrap t) (to_z-of_z w64 a a_fits)) (ap (wrap t) right ∙ sym (wrap_twice t (pos c.args.word)))
