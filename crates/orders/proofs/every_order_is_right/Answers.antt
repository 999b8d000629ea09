use Rattle.std.proofs.Common.{take}
use Rattle.orders.specs.Crew.{go, start}
use Rattle.orders.proofs.Steady.{steady_start, steady_go, steady_clean, steady_right}
use Rattle.orders.proofs.Alone.{one_worker}
use Rattle.orders.proofs.every_order_is_right.Goals as goal

pub returns-clause-right : goal.returns-clause-right
returns-clause-right c work target sound order = (
  (λ steps. steady_clean work target (go work (take steps order)) (steady_go work target (start work) (take steps order) sound (steady_start work target))),
  steady_right work target (go work order) sound (steady_go work target (start work) order sound (steady_start work target)),
)

pub returns-clause-finishes : goal.returns-clause-finishes
returns-clause-finishes c work target sound = one_worker work target sound
