use Rattle.std.proofs.Common.{map, sym, ◌∙◌, arith}
use Rattle.std.proofs.lemmas.Bool.{ltb-true, ltb-false}
use Rattle.plan.specs.View.{coordinate_of}
use Rattle.tails.proofs.Stores.{no_spans}
use Rattle.tails.proofs.sides.+spans_in.Goals as goal

pub returns-in-len1-up-empty : goal.returns-in-len1-up-empty
returns-in-len1-up-empty t c = c.new-in-len1-up-empty.ensures ∙ sym (no_spans (map coordinate_of c.args.coordinates.now) c.args.region.now (omega (arith, ltb-true, ltb-false)))
