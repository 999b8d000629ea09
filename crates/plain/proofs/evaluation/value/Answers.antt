use Rattle.std.proofs.Common.{◌≤◌, ◌<◌, ap, ◌∙◌, subst, ℤ, List}
use Rattle.std.proofs.lemmas.Result.{IfOk-weaker, IfErr-weaker}
use Rattle.algo.specs.View.{algorithm_of, samples_of}
use Rattle.plain.specs.Stages.{level, finished_level}
use Rattle.plain.specs.Scopes.{function_at}
use Rattle.plain.proofs.Known.{value_whole, count_whole}
use Rattle.plain.proofs.evaluation.value.Goals as goal

pub returns-clause-value : goal.returns-clause-value
returns-clause-value c =
    let a = algorithm_of c.args.algo.now in
    let s = samples_of c.args.inputs.now in
    let k = c.args.function in
    let e = c.goal_of_function-goal.ensures in
    let last = finished_level (function_at a k) in
    let value = (λ i. (level a s (e.function i) (e.level i).0 (e.level i).1).values (e.at i).items) ∙ ap (λ (p : List ℤ). (level a s k last.0 last.1).values p) c.in_ok-at.ensures.point ∙ value_whole a s c.is_well_formed.ensures k c.args.at.now c.requires.function in
    let count = (λ i. (level a s (e.function i) (e.level i).0 (e.level i).1).counts (e.at i).items) ∙ ap (λ (p : List ℤ). (level a s k last.0 last.1).counts p) c.in_ok-at.ensures.point ∙ count_whole a s c.is_well_formed.ensures k c.args.at.now c.requires.function in
    IfOk-weaker c.evaluate.result _ _ (λ v h. (h.0 ∙ value, subst (λ n. n ≤ c.args.budget) count h.1)) c.evaluate.ensures.value

pub returns-clause-spent : goal.returns-clause-spent
returns-clause-spent c =
    let a = algorithm_of c.args.algo.now in
    let s = samples_of c.args.inputs.now in
    let k = c.args.function in
    let e = c.goal_of_function-goal.ensures in
    let last = finished_level (function_at a k) in
    let count = (λ i. (level a s (e.function i) (e.level i).0 (e.level i).1).counts (e.at i).items) ∙ ap (λ (p : List ℤ). (level a s k last.0 last.1).counts p) c.in_ok-at.ensures.point ∙ count_whole a s c.is_well_formed.ensures k c.args.at.now c.requires.function in
    IfErr-weaker c.evaluate.result _ _ (λ y h m. subst (λ n. c.args.budget < n) count (h m)) c.evaluate.ensures.spent
