use Rattle.std.proofs.Common.{◌∙◌, sym, rules}
use Rattle.expr.specs.Grammar.{sign}
use Rattle.expr.proofs.Fronts.{item_place, operator_front}
use Rattle.expr.proofs.parser.operator_at.Goals as goal

pub returns-in_ok-op-in-Symbol-clause-placed : goal.returns-in_ok-op-in-Symbol-clause-placed
returns-in_ok-op-in-Symbol-clause-placed c =
    operator_front c.args.level c.in-Symbol.symbol c.in_ok-op-in-Symbol.op (sym c.operator.ensures ∙ c.in_ok-op-in-Symbol.was)
    (item_place (sign c.in-Symbol.symbol) c.args.tokens.now c.first-item.result c.in-len1-up.len_at_least c.first-item.is c.in-Symbol.is)
