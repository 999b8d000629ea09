use Rattle.std.proofs.Common.{arith}
use Rattle.std.proofs.lemmas.Bool.{ltb-true, ltb-false}
use Rattle.soundness.specs.Binders.View.{binders_of}
use Rattle.tails.proofs.Spelling.{too_few_places}
use Rattle.tails.proofs.stored.+are_seated.Goals as goal

pub returns-in-len1-up-empty : goal.returns-in-len1-up-empty
returns-in-len1-up-empty g t c = too_few_places (g.B.Bounds.rules c.args.bounds.now) (binders_of c.args.binders.now) c.args.spans.now c.args.places.now (omega (arith, ltb-true, ltb-false)) (omega (arith, ltb-true, ltb-false))
