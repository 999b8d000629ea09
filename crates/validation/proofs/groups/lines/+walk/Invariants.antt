use Rattle.std.proofs.Common.{◌≡◌, drop}
use Rattle.algo.specs.View.{algorithm_of}
use Rattle.plan.specs.Plan.{block}
use Rattle.plan.specs.Lists.{list_statements}
use Rattle.soundness.specs.Outline.Flaws.{first_of}
use Rattle.soundness.specs.Outline.View.{certificate_in, group_in, outline_in, plan_in}
use Rattle.validation.specs.Groups.Here.{here_of}
use Rattle.validation.specs.Groups.Lines.{block_flaws}
use Rattle.validation.proofs.groups.lines.+walk.Given as goal

abbrev pub invariant-all_flaw-loop-k : goal.invariant-all_flaw-loop-k
invariant-all_flaw-loop-k l =
    let o = l.ground.outlined.now in
    first_of (block_flaws (algorithm_of l.ground.algo.now) (plan_in o) (certificate_in o) (group_in o) (outline_in o) (block (list_statements (drop l.k l.all))) (here_of l.ground.lines l.now l.last))
    ≡ first_of (block_flaws (algorithm_of l.ground.algo.now) (plan_in o) (certificate_in o) (group_in o) (outline_in o) (block (list_statements l.all)) (here_of l.ground.lines l.here l.last))
