use Rattle.std.proofs.Common.{◌≡◌, sym, ◌∙◌, subst}
use Rattle.plan.specs.declared.stmt.Stmt.{Stmt}
use Rattle.plan.specs.Semantics.Actions.{after}
use Rattle.plan.specs.View.{statement_of}
use Rattle.report.specs.Weighing.{all_weighed, values_of}
use Rattle.report.proofs.Handing.{renamed}
use Rattle.report.proofs.weighing.is_renamed.Goals as goal

pub returns-in-Let : goal.returns-in-Let
returns-in-Let c = λ e s.
    let k = c.in-Let in
    let ws = all_weighed c.args.weighings.now in
    subst (λ (a : Stmt). values_of ws (after (statement_of a) s) ≡ values_of ws s) (sym k.is) (renamed ws k.symbol k.pick _ s (sym c.is_weighed.ensures ∙ e))
