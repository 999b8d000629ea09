-- Blocks of more than one statement.
use Rattle.std.proofs.Common.{◌≡◌, ◌≤◌, length, List, [], ◌∷◌, None, refl, arith}
use Rattle.plan.specs.declared.stmt.Stmt.{Stmt}
use Rattle.plan.specs.Lists.{list_statements}
use Rattle.plan.specs.Plan.{block}
use Rattle.validation.specs.Groups.Lanes.{only_in}

pub not_one : (xs : List Stmt) → 2 ≤ length xs → None ≡ only_in (block (list_statements xs))
not_one [] h = absurd (omega (arith, h))
not_one (x ∷ []) h = absurd (omega (arith, h))
not_one (x ∷ y ∷ xs) h = refl
