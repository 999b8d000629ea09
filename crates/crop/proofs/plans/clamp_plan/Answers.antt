use Rattle.std.proofs.Common.{sym, ◌∙◌, Some, rules}
use Rattle.std.proofs.lemmas.Int.{to_z-of_z}
use Rattle.crop.specs.Moving.{clamp_moved}
use Rattle.crop.proofs.plans.clamp_plan.Goals as goal
use mir.Syntax.{w32}

pub returns-in-Some-Some-Some : goal.returns-in-Some-Some-Some
returns-in-Some-Some-Some c =
    let given = c.in-Some-Some-Some in
    let number = to_z-of_z w32 c.args.c c.ranges.c in
    let low = to_z-of_z w32 given.low (search rules) in
    let high = to_z-of_z w32 given.high (search rules) in
    λ l h f g k.
    c.clamp_between.ensures l h f g k ∙ (λ i. clamp_moved (number i) (Some (low i)) (Some (high i)) (Some given.ends) f g k)
    ∙ (λ i. clamp_moved c.args.c (sym given.is-0 i) (sym given.is-1 i) (sym given.is-2 i) f g k)
