use Rattle.std.proofs.Common.{◌∙◌, ℕ, Option, pos, ap, sym, arith}
use Rattle.numeric.specs.declared.ty.Ty.{Ty}
use Rattle.tree.specs.Meaning.{typed}
use Rattle.interpreter.specs.Evaluation.Lanes.{taken_as}
use Rattle.interpreter.specs.Evaluation.Words.{bits_at}
use Rattle.interpreter.proofs.EachWord.{small_of}
use Rattle.interpreter.proofs.scanlines.sample_type.Goals as goal

pub returns-in-None : goal.returns-in-None
returns-in-None c = λ k lt.
    let ty = c.args.ty in
    let n : ℕ = bits_at c.args.words.now k in
    ap (typed ty) (small_of ty n n (omega arith) (c.if-are_samples_of.ensures k lt)) ∙ ap (λ (o : Option Ty). taken_as o (typed ty (pos n))) (sym c.in-None.is)
