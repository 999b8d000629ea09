use Rattle.std.proofs.Common.{subst, map, List, All}
use Rattle.std.proofs.lemmas.List.{take_all}
use Rattle.numeric.specs.declared.ty.Ty.TheVariants.{I32}
use Rattle.tree.specs.declared.expr.Expr.{Expr}
use Rattle.tree.specs.Term.{term_of}
use Rattle.algo.specs.Context.{HasType}
use Rattle.algo.proofs.Lists.{All-one_more, All-at}
use Rattle.algo.proofs.Placed.{in_one}
use Rattle.algo.proofs.update.indices.Goals as goal

pub returns-in-Err-clause-typed : goal.returns-in-Err-clause-typed
returns-in-Err-clause-typed c = λ h. c.in-Err.ensures.typed (All-at (HasType c.args.scope.now.variables.now c.args.scope.now.functions.now c.args.scope.now.input.now I32) term_of c.args.at.now c.loop-index.index-index c.index-item.result c.index-item.is c.loop-index-test.true h)

pub returns-in-Err-clause-place : goal.returns-in-Err-clause-place
returns-in-Err-clause-place c = in_one _ c.args.at.now c.loop-index.index-index c.index-item.result _ c.index-item.is c.loop-index-test.true c.in-Err.ensures.place

pub loop-index-preserved : goal.loop-index-preserved
loop-index-preserved c = All-one_more (HasType c.args.scope.now.variables.now c.args.scope.now.functions.now c.args.scope.now.input.now I32) term_of c.args.at.now c.loop-index.index-index c.index-item.result c.index-item.is c.loop-index-test.true c.loop-index.invariant c.in_default.ensures.typed

pub returns-clause-typed : goal.returns-clause-typed
returns-clause-typed c = subst (λ (xs : List Expr). All (HasType c.args.scope.now.variables.now c.args.scope.now.functions.now c.args.scope.now.input.now I32) (map term_of xs)) (take_all c.loop-index.index-index c.args.at.now c.loop-index-test.false) c.loop-index.invariant
