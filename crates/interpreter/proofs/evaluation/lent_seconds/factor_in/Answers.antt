use Rattle.std.proofs.Common.{◌≡◌, ℤ, ◌*ℤ◌, pos, sym, ap, ◌∙◌, arith}
use Rattle.std.proofs.lemmas.Int.{ints}
use Rattle.numeric.specs.Wrap.{wrap}
use Rattle.tree.specs.Meaning.{typed}
use Rattle.interpreter.specs.Evaluation.Multiples.{multiplied_value}
use Rattle.interpreter.proofs.EachWord.{wrap_twice}
use Rattle.interpreter.proofs.evaluation.lent_seconds.factor_in.Goals as goal

pub returns-in-None : goal.returns-in-None
returns-in-None c = λ z.
    let t = c.args.ty in
    let y : ℤ = wrap t z in
    let one : pos 1 *ℤ y ≡ y = omega (arith, ints) in
    ap (typed t) (ap (wrap t) one ∙ wrap_twice t z) ∙ (λ i. multiplied_value (sym c.in-None.is i) (typed t y))
