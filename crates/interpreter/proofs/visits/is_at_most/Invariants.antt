use Rattle.std.proofs.Common.{◌≡◌, take, true}
use Rattle.std.specs.Prelude.{int_le}
use Rattle.std.specs.List.{list_all}
use Rattle.plan.specs.Symbols.{form_value}
use Rattle.interpreter.specs.Bindings.{symbols_of}
use Rattle.interpreter.proofs.visits.is_at_most.Given as goal

abbrev pub invariant-loop-form : goal.invariant-loop-form
invariant-loop-form l = list_all (λ f. int_le l.number (form_value f (symbols_of l.symbols))) (take l.form-index l.forms) ≡ true
