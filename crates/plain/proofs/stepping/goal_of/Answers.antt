use Rattle.std.proofs.Common.{◌<◌, subst, arith, length, []}
use Rattle.algo.specs.View.{algorithm_of}
use Rattle.plain.specs.declared.frame.Stage.{Stage}
use Rattle.plain.specs.Scopes.{function_at}
use Rattle.plain.specs.Stages.{IsStage}
use Rattle.plain.proofs.Known.{is_function}
use Rattle.plain.proofs.stepping.goal_of.Goals as goal

pub overflow_add-result : goal.overflow_add-result
overflow_add-result c =
    let a = algorithm_of c.args.algo.now in
    let f = c.args.frame.now in
    let ok : c.in-Right.update < length (function_at a f.function).changes = subst (λ (t : Stage). IsStage (function_at a f.function) t) c.in-Right.is c.requires.stage in
    let few = (is_function a [] c.is_well_formed.ensures f.function c.requires.below).few_updates in
    omega (arith, ok, few)
