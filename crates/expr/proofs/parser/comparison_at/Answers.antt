use Rattle.std.proofs.Common.{◌∙◌, sym, rules}
use Rattle.expr.specs.Grammar.{sign}
use Rattle.expr.proofs.Fronts.{item_place, comparison_front}
use Rattle.expr.proofs.parser.comparison_at.Goals as goal

pub returns-in-Some-clause-placed : goal.returns-in-Some-clause-placed
returns-in-Some-clause-placed c =
    comparison_front c.in-Symbol.symbol c.in-Some.by (sym c.comparison.ensures ∙ c.in-Some.is)
    (item_place (sign c.in-Symbol.symbol) c.args.tokens.now c.first-item.result c.in-len1-up.len_at_least c.first-item.is c.in-Symbol.is)
