use Rattle.std.proofs.Common.{◌≡◌, ◌≤◌, List, arith, subst}
use Rattle.std.specs.Prelude.{All}
use Rattle.std.proofs.lemmas.List.{take_all}
use Rattle.interpreter.specs.declared.buffers.limit.Limit.{Limit}
use Rattle.interpreter.proofs.Blocks.{most_more}
use Rattle.interpreter.proofs.buffers.memory.most_places.Goals as goal

pub returns : goal.returns
returns c =
    let Q : Limit → Type 0 = λ x. x.buffer ≡ c.args.buffer → x.places ≤ c.loop-limit.most in
    subst (λ (xs : List Limit). All Q xs) (take_all c.loop-limit.limit-index c.args.limits.now (omega arith)) c.loop-limit.invariant

pub loop-limit-preserved : goal.loop-limit-preserved
loop-limit-preserved c =
    most_more c.args.limits.now c.args.buffer c.loop-limit.limit-index c.loop-limit.most c.larger-most.result _ c.loop-limit-test.true c.loop-limit.invariant c.larger-most.ensures.left (λ e. let h = c.places_for.ensures e in let k = c.larger-most.ensures.right in omega arith)
