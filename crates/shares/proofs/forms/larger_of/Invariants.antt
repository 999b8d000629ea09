use Rattle.std.proofs.Common.{◌≡◌, take, map, fold, ◌^◌}
use Rattle.std.specs.Int.{int_max}
use Rattle.lin.specs.Forms.{IsWithin}
use Rattle.plan.specs.Symbols.{form_value}
use Rattle.shares.specs.Lets.{symbols_at}
use Rattle.shares.proofs.forms.larger_of.Given as goal

abbrev pub invariant-loop-form : goal.invariant-loop-form
invariant-loop-form l = record {
  value : l.found ≡ fold int_max l.first (map (λ m. form_value m (symbols_at l.at l.lets)) (take l.form-index l.forms));
  small : IsWithin (2 ^ 44) l.found;
}
