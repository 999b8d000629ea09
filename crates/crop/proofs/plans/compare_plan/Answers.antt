use Rattle.std.proofs.Common.{sym, ◌∙◌, Some, rules}
use Rattle.std.proofs.lemmas.Int.{to_z-of_z}
use Rattle.crop.specs.Moving.{compare_moved}
use Rattle.crop.proofs.plans.compare_plan.Goals as goal
use mir.Syntax.{w32}

pub returns-in-Some-Some : goal.returns-in-Some-Some
returns-in-Some-Some c =
    let given = c.in-Some-Some in
    let number = to_z-of_z w32 given.number (search rules) in
    λ by b f g.
    c.compare_from.ensures by b f g ∙ (λ i. compare_moved by (Some (number i)) (Some given.ends) f g) ∙ (λ i. compare_moved by (sym given.is-0 i) (sym given.is-1 i) f g)

pub returns-in-Some-None : goal.returns-in-Some-None
returns-in-Some-None c =
    λ by b f g. c.compare_plain.ensures by b f g ∙ (λ i. compare_moved by (sym c.in-Some-None.is-0 i) (sym c.in-Some-None.is-1 i) f g)

pub returns-in-None-default : goal.returns-in-None-default
returns-in-None-default c = λ by b f g. c.compare_plain-in-None-default.ensures by b f g ∙ (λ i. compare_moved by (sym c.in-None-default.is-0 i) c.args.ends f g)
