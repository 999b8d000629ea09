use Rattle.std.proofs.Common.{Some, ap, ◌∙◌}
use Rattle.headline.specs.Numbers.{cell_number}
use Rattle.headline.specs.Theorem.{output_cell}
use Rattle.headline.proofs.laws.pictures_come_out.Goals as goal

pub returns : goal.returns
returns c a p cert samples put_in o g order n is plan lists group name finished h inside =
    let there = c.output_is_there.ensures a p samples o g n (λ m x e. (plan.groups m x e).ends) group name h inside in
    let right = ((c.plans_are_right.ensures a p cert samples put_in is plan lists).0 order).1 in
    right.all_set finished (cell_number p (output_cell a o n)) there.0 ∙ ap Some there.2
