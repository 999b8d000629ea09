use Rattle.std.proofs.Props.{props}
use Rattle.std.proofs.Math.Logic.{∥∥₁_elim}
use Rattle.checked_plan.specs.View.{algorithm_checked, plan_checked, certificate_checked}
use Rattle.checked_plan.proofs.Plans.{holds_output}
use Rattle.checked_plan.proofs.output.cells.OutputCells.cell_of.Goals as goal

pub returns-clause-holds : goal.returns-clause-holds
returns-clause-holds c =
    let k = c.args.self.now.checked.now in
    ∥∥₁_elim k.ready (hlevel props) (λ ready. holds_output (algorithm_checked k) (plan_checked k) (certificate_checked k) ready c.args.at.now c.requires)
