use Rattle.std.proofs.Common.{◌≡◌, ℕ, ℤ, Some, length, sym, ap, ◌∙◌, arith}
use Rattle.tree.specs.declared.value.Value.{Value}
use Rattle.tree.specs.Meaning.{typed}
use Rattle.interpreter.specs.Evaluation.Lanes.{lanes_at}
use Rattle.interpreter.proofs.Casts.{found_taken}
use Rattle.interpreter.proofs.evaluation.looking.look_points_in.Goals as goal

pub returns : goal.returns
returns g c = λ m ok k lt.
    let ty = c.in_ok-ty.ty in
    let long : length c.cast_words.new.out ≡ length c.look_points.new.out = omega arith in
    found_taken c.args.cast _ _
    (ap (λ (n : ℕ). g.R.RunReader.look c.args.reader.now m c.args.name.now (lanes_at n c.args.indices.now c.args.registers.now k)) long
    ∙ c.in_ok-ty.ensures m ok k (omega arith) ∙ ap (λ (z : ℤ). Some (typed ty z)) (sym (c.in_ok-narrow_words.ensures k (omega arith))))
    ∙ ap (λ (v : Value). Some v) (sym (c.cast_words.ensures k lt))
