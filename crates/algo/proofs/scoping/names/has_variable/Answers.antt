use Rattle.std.proofs.Common.{◌∙◌, arith}
use Rattle.std.proofs.lemmas.Grind.{common_steps}
use Rattle.algo.proofs.Indices.{has_variable-within, has_variable-past}
use Rattle.algo.proofs.scoping.names.has_variable.Goals as goal

pub returns-then-k-at : goal.returns-then-k-at
returns-then-k-at c =
    c.is_variable.ensures ∙ has_variable-within c.args.name.now c.args.at.now c.args.k c.index-at-k.result (omega (arith, c.if-k-at.true)) c.index-at-k.is

pub returns-else-k-at : goal.returns-else-k-at
returns-else-k-at c =
    let past = has_variable-past c.args.name.now c.args.at.now c.args.k (omega (arith, c.if-k-at.false)) in
    grind (arith, common_steps, past, c.if-k-at.false)
