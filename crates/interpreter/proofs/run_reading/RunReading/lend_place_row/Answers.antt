use Rattle.std.proofs.Common.{◌≡◌, ◌+◌, ◌<◌, ℕ, ℤ, Some, length, pos, ap, sym, refl, ◌∙◌, arith, rules, w64, SFits}
use Rattle.std.specs.Prelude.{◌+ℤ◌, ◌-ℤ◌}
use Rattle.std.proofs.lemmas.Int.{ints, to_z-of_z}
use Rattle.numeric.specs.Wrap.{wrap}
use Rattle.tree.specs.declared.value.Value.{Value}
use Rattle.tree.specs.Meaning.{typed}
use Rattle.interpreter.specs.Buffers.Marks.{places_held}
use Rattle.interpreter.specs.Evaluation.Lending.{lent}
use Rattle.interpreter.specs.Evaluation.Words.{bits_at}
use Rattle.interpreter.proofs.Casts.{found_taken}
use Rattle.interpreter.proofs.HeldPlaces.{marked_along}
use Rattle.interpreter.proofs.Windows.{window_along}
use Rattle.interpreter.proofs.run_reading.RunReading.lend_place_row.Goals as goal

pub returns-clause-value : goal.returns-clause-value
returns-clause-value c = λ k lt.
    let line = c.in_ok-line.line in
    let first : ℤ = c.args.first in
    let origin : ℤ = line.origin in
    let fits : SFits w64 origin = search rules in
    let start : ℕ = c.in_ok-start.start in
    let held = c.in_ok-held.held in
    let own = c.in_ok-own.own in
    let bits : ℕ = bits_at (lent held.numbers) k in
    let v = typed own (wrap own (pos bits)) in
    let inside : k < length held.marks.now = omega (arith, lt, c.in_ok-held.ensures.marks) in
    let is : first ≡ origin +ℤ pos start = sym (to_z-of_z w64 first c.ranges.first) ∙ c.in_ok-start.ensures ∙ ap (λ (o : ℤ). o +ℤ pos start) (to_z-of_z w64 origin fits) in
    let place : (first +ℤ pos k) -ℤ origin ≡ pos (start + k) = omega (arith, ints, is) in
    found_taken c.args.cast _ v
    (c.in_ok-line.ensures (first +ℤ pos k) v
    (window_along (places_held line.held) (places_held held)
    start c.args.count k ((first +ℤ pos k) -ℤ origin) (Some v) c.in_ok-held.ensures.same place
    (marked_along held.marks.now (lent held.numbers) held.wides.now k own _ (c.in_ok-own.ensures k inside) refl)))
    ∙ ap (λ (x : Value). Some x) (sym (c.in_ok-ty.ensures (pos bits)))
