use Rattle.std.proofs.Common.{◌<◌, [], sym, subst, ◌∙◌}
use Rattle.std.proofs.Props.{props}
use Rattle.std.proofs.Math.Logic.{∥∥₁_elim}
use Rattle.crew.proofs.Layouts.{own_work}
use Rattle.crew.proofs.opening.cells.CheckedCellsSource.own.Goals as goal

pub own-requires : goal.own-requires
own-requires c =
    let x = c.args.self.now.checked.now in
    ∥∥₁_elim x.lists (search props) (λ lists. subst (λ n. c.args.piece < n) ((own_work x []).pieces ∙ sym (lists []).count) c.requires)

pub returns : goal.returns
returns c = c.own.ensures [] ∙ sym ((own_work c.args.self.now.checked.now []).own c.args.piece)
