use Rattle.std.proofs.Common.{◌++◌, take_all, sym, ap, ◌∙◌}
use Rattle.std.specs.Prelude.{string_bytes}
use Rattle.std.specs.List.{flat_map}
use Rattle.plan.specs.View.{coordinate_of}
use Rattle.nest.specs.Spelling.{spaced_coordinate}
use Rattle.nest.proofs.Lists.{flat_of_map}
use Rattle.nest.proofs.writing.put_coordinates.Goals as goal

pub returns : goal.returns
returns c =
    c.loop-coordinate.invariant
    ∙ ap (λ xs. string_bytes c.args.text.now ++ flat_map (λ x. spaced_coordinate (coordinate_of x)) xs) (take_all c.loop-coordinate.coordinate-index c.args.all.now c.loop-coordinate-test.false)
    ∙ ap (λ w. string_bytes c.args.text.now ++ w) (sym (flat_of_map spaced_coordinate coordinate_of c.args.all.now))
