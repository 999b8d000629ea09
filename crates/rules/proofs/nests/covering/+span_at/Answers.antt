use Rattle.std.proofs.Common.{arith}
use Rattle.std.proofs.lemmas.Bool.{ltb-true}
use Rattle.rules.specs.Nests.View.{coordinates_of}
use Rattle.rules.proofs.Ends.{no_span}
use Rattle.rules.proofs.nests.covering.+span_at.Goals as goal

pub returns-in_default-empty : goal.returns-in_default-empty
returns-in_default-empty t c = no_span c.args.symbol (coordinates_of c.args.coordinates.now) c.args.region.now (omega (arith, ltb-true))
