use Rattle.std.proofs.Common.{◌≡◌}
use Rattle.std.specs.Prelude.{ℤ, negsuc, Option, Some}
use Rattle.lin.specs.declared.scope.Binding.{Binding}
use Rattle.lin.specs.Forms.{Form, combined}
use Rattle.lin.specs.Search.{sup, sup_of_difference}
use Rattle.lin.proofs.Limits.{if_ok}
use Rattle.lin.proofs.Soundness.{difference-above_if}
use Rattle.lin.proofs.scope.Scope.sup_of_difference.Goals as goal
use Rattle.std.specs.Prelude.{List}

bound_is : (scope : List Binding) (a b d : Form) (found : Option ℤ) → combined a (negsuc 0) b ≡ Some d → found ≡ sup scope d → found ≡ sup_of_difference scope a b
bound_is scope a b d found e h = rw e h

pub returns-in-Ok-clause-above : goal.returns-in-Ok-clause-above
returns-in-Ok-clause-above c =
    if_ok c.sup.result _ _ (λ found h. difference-above_if c.args.self.now c.args.first.now c.args.second.now found
    (bound_is c.args.self.now c.args.first.now c.args.second.now c.in-Ok.difference found c.in-Ok.ensures.ok h)) c.sup.ensures.exact
