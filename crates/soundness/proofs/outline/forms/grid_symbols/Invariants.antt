use Rattle.std.proofs.Common.{◌≡◌}
use Rattle.soundness.specs.Outline.Forms.{grid_symbols}
use Rattle.soundness.proofs.outline.forms.grid_symbols.Given as goal

abbrev pub invariant-loop-symbol : goal.invariant-loop-symbol
invariant-loop-symbol l = l.symbols.items ≡ grid_symbols l.symbol
