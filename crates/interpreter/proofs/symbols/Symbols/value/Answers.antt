use Rattle.std.proofs.Common.{◌≡◌, ◌<◌, length, List, get_or, ap, ◌∙◌, subst, rules, arith, w64, to_z, pos, false}
use Rattle.std.proofs.lemmas.Int.{to_z-of_z}
use Rattle.plan.specs.Certificate.Cells.{grid_symbols}
use Rattle.interpreter.specs.declared.symbols.Binding.{Binding}
use Rattle.interpreter.proofs.Bindings.{value_same, value_other}
use Rattle.interpreter.proofs.symbols.Symbols.value.Goals as goal
use Rattle.interpreter.proofs.symbols.Symbols.value.Goals.{then-symbol-binding, else-symbol-binding}

abbrev none : Binding
none = record { symbol = 0; value = pos 0; first = false }

pub loop-binding-preserved : goal.loop-binding-preserved
loop-binding-preserved c =
    let bs = c.args.self.now.bound in
    let i = c.loop-binding.binding-index in
    let s = grid_symbols c.args.self.now.grid in
    let same : c.deref-binding-items.result.now ≡ bs = search rules in
    let lt : i < length bs = subst (λ (xs : List Binding). i < length xs) same c.loop-binding-test.true in
    let d = c.deref-binding-items.result.now in
    let here_is : (get_or d i none).value ≡ (get_or bs i none).value = ap (λ (xs : List Binding). (get_or xs i none).value) same in
    elim c.if-symbol-binding.branch [
      | then-symbol-binding w ↦
          let here : c.args.symbol ≡ (get_or bs i none).symbol = subst (λ (xs : List Binding). c.args.symbol ≡ (get_or xs i none).symbol) same w.if-symbol-binding.true in
          let v : c.if-symbol-binding.value ≡ (get_or d i none).value = first_of (search rules, search (rules, to_z-of_z), cc (w.value-is), grind (arith, to_z-of_z)) in
          c.if-symbol-binding.value-is ∙ v ∙ here_is ∙ value_same s bs i none c.args.symbol lt here
      | else-symbol-binding w ↦
          let away : ¬ (c.args.symbol ≡ (get_or bs i none).symbol) = subst (λ (xs : List Binding). ¬ (c.args.symbol ≡ (get_or xs i none).symbol)) same w.if-symbol-binding.false in
          let v : c.if-symbol-binding.value ≡ to_z w64 c.loop-binding.value-bits = first_of (search rules, cc (w.value-is, c.loop-binding.value-is), grind (arith, to_z-of_z)) in
          c.if-symbol-binding.value-is ∙ v ∙ c.loop-binding.invariant ∙ value_other s bs i none c.args.symbol lt away
    ]
