use Rattle.std.proofs.Common.{◌≡◌, ◌+◌, ℕ, ℤ, Some, length, pos, ap, sym, ◌∙◌, arith, rules, w64, SFits}
use Rattle.std.specs.Prelude.{◌+ℤ◌, ◌-ℤ◌}
use Rattle.std.proofs.lemmas.Int.{ints, to_z-of_z}
use Rattle.tree.specs.declared.value.Value.{Value}
use Rattle.tree.specs.Meaning.{typed}
use Rattle.interpreter.specs.Buffers.Marks.{places_held}
use Rattle.interpreter.specs.Evaluation.Words.{word_at}
use Rattle.interpreter.proofs.Casts.{found_taken}
use Rattle.interpreter.proofs.Windows.{window_along}
use Rattle.interpreter.proofs.run_reading.RunReading.look_place_row.Goals as goal

pub returns : goal.returns
returns c = λ k lt.
    let line = c.in_ok-line.line in
    let first : ℤ = c.args.first in
    let origin : ℤ = line.origin in
    let fits : SFits w64 origin = search rules in
    let start : ℕ = c.in_ok-start.start in
    let out = c.copy_words.new.out in
    let v = typed c.in_ok-ty.ty (word_at c.in_ok-ty.ty out k) in
    let is : first ≡ origin +ℤ pos start = sym (to_z-of_z w64 first c.ranges.first) ∙ c.in_ok-start.ensures ∙ ap (λ (o : ℤ). o +ℤ pos start) (to_z-of_z w64 origin fits) in
    let place : (first +ℤ pos k) -ℤ origin ≡ pos (start + k) = omega (arith, ints, is) in
    found_taken c.args.cast _ v
    (c.in_ok-line.ensures (first +ℤ pos k) v
    (window_along (places_held line.held) (places_held c.in_ok-held.held)
    start (length c.args.out.now) k ((first +ℤ pos k) -ℤ origin) (Some v) c.in_ok-held.ensures.same place (c.in_ok-copy_words.ensures k (omega arith))))
    ∙ ap (λ (x : Value). Some x) (sym (c.cast_words.ensures k lt))
