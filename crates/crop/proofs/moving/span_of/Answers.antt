use Rattle.std.proofs.Common.{Err, map, sym, ◌∙◌}
use Rattle.tree.specs.Term.{term_of}
use Rattle.bounds.specs.Interval.{interval}
use Rattle.crop.specs.View.{called_by}
use Rattle.crop.proofs.moving.span_of.Goals as goal

pub returns-in-Ok : goal.returns-in-Ok
returns-in-Ok c =
    let m = c.args.mover.now in
    sym c.in-Ok.ensures.ok ∙ (λ i. interval (c.new-scope.ensures i) (called_by m.names) (map (λ x. x.now) m.names.variables.now) m.region.now (term_of c.args.expr.now))

pub returns-in-Err-Limit : goal.returns-in-Err-Limit
returns-in-Err-Limit c =
    let m = c.args.mover.now in
    let none = c.in-Err-Limit.ensures.limit (λ i. Err (c.in-Err-Limit.field-0-is i)) in
    sym none ∙ (λ i. interval (c.new-scope.ensures i) (called_by m.names) (map (λ x. x.now) m.names.variables.now) m.region.now (term_of c.args.expr.now))
