use Rattle.std.proofs.Common.{sym, subst}
use Rattle.expr.specs.Grammar.{sign}
use Rattle.expr.specs.Places.{One, FrontAt}
use Rattle.expr.proofs.Fronts.{symbol_at}
use Rattle.expr.proofs.parser.expect.Goals as goal

pub returns-in-Some-clause-placed : goal.returns-in-Some-clause-placed
returns-in-Some-clause-placed c =
    subst (λ s. FrontAt (One (sign c.args.symbol)) s c.args.tokens.now c.in-Some.rest.now) (sym c.place.ensures)
    (symbol_at c.args.symbol c.args.tokens.now c.in-Some.rest.now _ c.in-Some.ensures.kinds c.in-Some.ensures.rest)
