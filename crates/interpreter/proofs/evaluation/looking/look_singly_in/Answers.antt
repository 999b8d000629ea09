use Rattle.std.proofs.Common.{◌∷◌, ℤ, Some, sym, ap, ◌∙◌, arith}
use Rattle.tree.specs.declared.value.Value.{Value}
use Rattle.tree.specs.Meaning.{typed}
use Rattle.interpreter.proofs.Casts.{found_taken}
use Rattle.interpreter.proofs.evaluation.looking.look_singly_in.Goals as goal

pub returns : goal.returns
returns g c = λ m ok k lt.
    let ty = c.in_ok-ty.ty in
    let look : ℤ → _ = λ z. g.R.RunReader.look c.args.reader.now m c.args.name.now (z ∷ c.args.others.now) in
    found_taken c.args.cast _ _
    (ap look (sym (c.in_ok-numbers_of.ensures k (omega arith))) ∙ c.in_ok-ty.ensures m ok k (omega arith) ∙ ap (λ (z : ℤ). Some (typed ty z)) (sym (c.in_ok-narrow_words.ensures k (omega arith))))
    ∙ ap (λ (v : Value). Some v) (sym (c.cast_words.ensures k lt))
