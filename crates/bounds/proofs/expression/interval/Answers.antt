use Rattle.std.proofs.Common.{map, sym, ap, ◌∙◌, List}
use Rattle.lin.specs.declared.span.Span1.{Span1}
use Rattle.tree.specs.Term.{term_of}
use Rattle.bounds.specs.Interval.{interval}
use Rattle.bounds.proofs.IntervalSound.{contains}
use Rattle.bounds.proofs.expression.interval.Goals as goal

pub returns-in-Some-clause-sound : goal.returns-in-Some-clause-sound
returns-in-Some-clause-sound g c =
    let scope = c.args.scope.now in
    let functions = g.N.Names.functions c.args.names.now in
    let names = map (λ x. x.now) c.args.vars.now in
    let term = term_of c.args.expr.now in
    let is = ap (λ (r : List Span1). interval scope functions names r term) (sym c.as_slice.ensures) ∙ sym c.in_ok-span.ensures.span ∙ c.in-Some.is in
    rw c.in-Some.span-is (λ typed. contains scope (g.N.Names.variables c.args.names.now) functions names c.args.region.now term c.in-Some.span is typed)
