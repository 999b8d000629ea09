use Rattle.std.proofs.Common.{◌≡◌, take, map, fold}
use Rattle.std.specs.Int.{int_max}
use Rattle.plan.specs.Symbols.{form_value}
use Rattle.interpreter.specs.Bindings.{symbols_of}
use Rattle.interpreter.proofs.forms.larger_of.Given as goal

abbrev pub invariant-loop-form : goal.invariant-loop-form
invariant-loop-form l = l.found ≡ fold int_max l.first (map (λ m. form_value m (symbols_of l.symbols)) (take l.form-index l.forms))
