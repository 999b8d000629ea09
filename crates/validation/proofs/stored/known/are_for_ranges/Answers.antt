use Rattle.std.proofs.Common.{map, arith}
use Rattle.std.proofs.lemmas.Grind.{common_steps}
use Rattle.plan.specs.View.{coordinate_of}
use Rattle.algo.specs.Parts.{range_of}
use Rattle.validation.proofs.StoredRowed.{uneven_names}
use Rattle.validation.proofs.stored.known.are_for_ranges.Goals as goal

pub returns-then-coordinates-ranges : goal.returns-then-coordinates-ranges
returns-then-coordinates-ranges c = uneven_names (map coordinate_of c.args.coordinates.now) (map (λ d. d.variable) (map range_of c.args.ranges.now)) (λ e. c.if-coordinates-ranges.true (grind (arith, common_steps, e)))
