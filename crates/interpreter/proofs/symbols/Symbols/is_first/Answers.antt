use Rattle.std.proofs.Common.{◌≡◌, ◌<◌, length, List, get_or, ap, ◌∙◌, subst, rules, pos, false}
use Rattle.plan.specs.Certificate.Cells.{grid_symbols}
use Rattle.interpreter.specs.declared.symbols.Binding.{Binding}
use Rattle.interpreter.proofs.Bindings.{first_same, first_other}
use Rattle.interpreter.proofs.symbols.Symbols.is_first.Goals as goal
use Rattle.interpreter.proofs.symbols.Symbols.is_first.Goals.{then-symbol-binding, else-symbol-binding}

abbrev none : Binding
none = record { symbol = 0; value = pos 0; first = false }

pub loop-binding-preserved : goal.loop-binding-preserved
loop-binding-preserved c =
    let bs = c.args.self.now.bound in
    let i = c.loop-binding.binding-index in
    let s = grid_symbols c.args.self.now.grid in
    let same : c.deref-binding-items.result.now ≡ bs = search rules in
    let lt : i < length bs = subst (λ (xs : List Binding). i < length xs) same c.loop-binding-test.true in
    elim c.if-symbol-binding.branch [
      | then-symbol-binding w ↦
          let here : c.args.symbol ≡ (get_or bs i none).symbol = subst (λ (xs : List Binding). c.args.symbol ≡ (get_or xs i none).symbol) same w.if-symbol-binding.true in
          let e = first_same s bs i none c.args.symbol lt here in
          let f = ap (λ (xs : List Binding). (get_or xs i none).first) same in
          w.first-is ∙ f ∙ e
      | else-symbol-binding w ↦
          let away : ¬ (c.args.symbol ≡ (get_or bs i none).symbol) = subst (λ (xs : List Binding). ¬ (c.args.symbol ≡ (get_or xs i none).symbol)) same w.if-symbol-binding.false in
          w.first-is ∙ c.loop-binding.invariant ∙ first_other s bs i none c.args.symbol lt away
    ]
