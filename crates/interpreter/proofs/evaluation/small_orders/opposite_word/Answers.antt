use Rattle.std.proofs.Common.{◌≡◌, ℤ, rules, pos, ap, sym, ◌∙◌, arith, w64, SFits}
use Rattle.std.specs.Prelude.{neg_ℤ, ◌-ℤ◌}
use Rattle.std.proofs.lemmas.Int.{ints, to_z-of_z}
use Rattle.numeric.specs.Wrap.{wrap}
use Rattle.interpreter.proofs.EachWord.{wrap_twice}
use Rattle.interpreter.proofs.evaluation.small_orders.opposite_word.Goals as goal

pub returns : goal.returns
returns c = λ t.
    let a : ℤ = c.from.result in
    let a_fits : SFits w64 a = search rules in
    let x : ℤ = wrap t (pos c.args.word) in
    let same : pos 0 -ℤ x ≡ neg_ℤ x = omega (arith, ints) in
    c.residue.ensures t (pos 0) x (ap (wrap t) (to_z-of_z w64 (pos 0) (search rules))) (ap (wrap t) (to_z-of_z w64 a a_fits ∙ c.from.ensures) ∙ sym (wrap_twice t (pos c.args.word)))
    ∙ ap (wrap t) same
