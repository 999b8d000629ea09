use Rattle.std.proofs.Common.{IsTrue}
use Rattle.crop.proofs.Expressions.{stays}
use Rattle.crop.proofs.laws.expressions_move.Goals as goal

pub returns : goal.returns
returns c m known v w k q inside h e t r = stays m known v w k q (λ name at. IsTrue (inside name at)) h.told h.variables_within h.variables h.answers h.between e t r
