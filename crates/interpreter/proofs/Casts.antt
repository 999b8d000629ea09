-- What is found, cast to a type.
use Rattle.std.proofs.Common.{◌≡◌, Option, Some, None, ap}
use Rattle.numeric.specs.declared.ty.Ty.{Ty}
use Rattle.numeric.specs.Wrap.{wrap}
use Rattle.tree.specs.declared.value.Value.{Value}
use Rattle.tree.specs.Meaning.{typed}
use Rattle.plan.specs.Semantics.Found.{with}
use Rattle.interpreter.specs.Evaluation.Lanes.{found_as, taken_as}

pub found_taken : (c : Option Ty) (o : Option Value) (v : Value) → o ≡ Some v → found_as c o ≡ Some (taken_as c v)
found_taken None o v h = h
found_taken (Some t) o v h = ap (λ (x : Option Value). with x (λ y. Some (typed t (wrap t y.number)))) h
