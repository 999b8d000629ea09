use Rattle.tails.proofs.Picking.{prefers_later, prefers_first}
use Rattle.tails.proofs.choosing.preferred.Goals as goal

pub returns-then-is_before-clause-value : goal.returns-then-is_before-clause-value
returns-then-is_before-clause-value c = λ steps. prefers_later steps c.args.first c.in-Some.one c.args.later c.is_before.result c.in-Some.is (c.is_before.ensures steps) c.if-is_before.true

pub returns-else-is_before-clause-value : goal.returns-else-is_before-clause-value
returns-else-is_before-clause-value c = λ steps. prefers_first steps c.args.first c.in-Some.one c.args.later c.is_before.result c.in-Some.is (c.is_before.ensures steps) c.if-is_before.false
