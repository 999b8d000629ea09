use Rattle.std.proofs.Common.{map, subst, All, List}
use Rattle.std.proofs.lemmas.List.{take_all}
use Rattle.tree.specs.declared.expr.Expr.{Expr}
use Rattle.tree.specs.Term.{term_of}
use Rattle.algo.proofs.Lists.{All-at}
use Rattle.algo.proofs.Placed.{in_one}
use Rattle.algo.proofs.update.first_fault.Goals as goal

pub returns-in-Some-clause-holds : goal.returns-in-Some-clause-holds
returns-in-Some-clause-holds g c = λ h. c.in-Some.ensures.holds (All-at (g.C.Condition.holds c.args.condition.now) term_of c.args.at.now c.loop-index.index-index c.index-item.result c.index-item.is c.loop-index-test.true h)

pub returns-in-Some-clause-place : goal.returns-in-Some-clause-place
returns-in-Some-clause-place g c = in_one (g.C.Condition.broken_at c.args.condition.now) c.args.at.now c.loop-index.index-index c.index-item.result _ c.index-item.is c.loop-index-test.true c.in-Some.ensures.place

pub returns-clause-holds : goal.returns-clause-holds
returns-clause-holds g c = subst (λ (xs : List Expr). All (g.C.Condition.holds c.args.condition.now) (map term_of xs)) (take_all c.loop-index.index-index c.args.at.now c.loop-index-test.false) c.loop-index.invariant
