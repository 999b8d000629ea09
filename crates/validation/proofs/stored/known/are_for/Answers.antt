use Rattle.std.proofs.Common.{map, arith}
use Rattle.std.proofs.lemmas.Grind.{common_steps}
use Rattle.plan.specs.View.{coordinate_of}
use Rattle.algo.specs.Parts.{names_of}
use Rattle.validation.proofs.StoredRowed.{uneven_names}
use Rattle.validation.proofs.stored.known.are_for.Goals as goal

pub returns-then-coordinates-variables : goal.returns-then-coordinates-variables
returns-then-coordinates-variables c = uneven_names (map coordinate_of c.args.coordinates.now) (names_of c.args.variables.now) (λ e. c.if-coordinates-variables.true (grind (arith, common_steps, e)))
