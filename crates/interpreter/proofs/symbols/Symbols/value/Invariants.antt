use Rattle.std.proofs.Common.{◌≡◌, take}
use Rattle.plan.specs.Certificate.Cells.{grid_symbols}
use Rattle.interpreter.specs.Bindings.{bind_all}
use Rattle.interpreter.proofs.symbols.Symbols.value.Given as goal

abbrev pub invariant-loop-binding : goal.invariant-loop-binding
invariant-loop-binding l = l.value ≡ (bind_all (grid_symbols l.self.grid) (take l.binding-index l.self.bound)).value l.symbol
