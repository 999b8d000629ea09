use Rattle.std.proofs.Common.{◌^◌, ◌<◌, ℕ, rules, subst, sym}
use Rattle.algo.specs.View.{samples_of}
use Rattle.checked_plan.specs.View.{algorithm_checked, plan_checked, certificate_checked}
use Rattle.steps.proofs.Accepted.{few}
use Rattle.steps.proofs.job.PlanJobRuns.pieces.Goals as goal

pub overflow_cast-result : goal.overflow_cast-result
overflow_cast-result c =
    let x = c.args.self.now.checked.now in
    let P : ℕ → Type 0 = λ n. n < 2 ^ 32 in
    let small : c.pieces.result < 2 ^ 32 = subst P (sym (c.pieces.ensures.work (samples_of c.args.self.now.inputs.now))) (few (algorithm_checked x) (plan_checked x) (certificate_checked x) x.ready) in
    search (rules, small)
