use Rattle.std.proofs.Common.{◌+◌, ◌*◌, length}
use Rattle.algo.specs.View.{algorithm_of, samples_of}
use Rattle.plain.specs.Stages.{level, stage_weight}
use Rattle.plain.proofs.Loop.{Holds}
use Rattle.plain.proofs.evaluation.evaluate.Given as goal

abbrev pub invariant-loop-waiting : goal.invariant-loop-waiting
invariant-loop-waiting l =
    let a = algorithm_of l.algo in
    let samples = samples_of l.inputs in
    let g = l.fn.goal in
    let asked = level a samples g.function g.updates g.points in
    Holds a samples g.at.items (asked.values g.at.items) (asked.counts g.at.items) l.budget l.left l.frame l.waiting.items

abbrev pub decreases-loop-waiting : goal.decreases-loop-waiting
decreases-loop-waiting l = 5 * l.left + 3 * length l.waiting.items + stage_weight l.frame.stage
