use Rattle.std.specs.Ordering.{int_eq}
use Rattle.std.proofs.lemmas.Bool.Decides.{Decides-int_eq}
use Rattle.std.proofs.lemmas.Slice.Eq.{slice_eq-Decides}
use Rattle.interpreter.proofs.Spots.{sound_test}
use Rattle.interpreter.proofs.runs.are_same.Goals as goal

pub returns : goal.returns
returns c = sound_test c.eq.result _ (slice_eq-Decides {E = int_eq} Decides-int_eq c.args.left.now c.args.right.now c.eq.result c.eq.ensures)
