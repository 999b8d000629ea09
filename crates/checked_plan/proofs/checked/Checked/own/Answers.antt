use Rattle.std.proofs.Common.{◌∙◌, ap}
use Rattle.std.proofs.Props.{props}
use Rattle.std.proofs.Math.Logic.{∥∥₁_elim}
use Rattle.orders.specs.Lists.{own_of}
use Rattle.checked_plan.proofs.Lists.{listed}
use Rattle.checked_plan.proofs.checked.Checked.own.Goals as goal

pub returns : goal.returns
returns c = λ samples.
    let there = listed c.args.self.now.pieces.items c.args.piece c.index.result.now c.requires c.index.ensures in
    ∥∥₁_elim c.args.self.now.lists (search props) (λ lists. ap own_of there ∙ (lists samples).own c.args.piece)
