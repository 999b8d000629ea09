use Rattle.std.proofs.Common.{arith}
use Rattle.std.proofs.lemmas.Bool.{ltb-true, ltb-false}
use Rattle.soundness.specs.Binders.View.{binders_of}
use Rattle.tails.proofs.Spelling.{too_few_spans}
use Rattle.tails.proofs.regions.+are_within.Goals as goal

pub returns-in-len1-up-empty : goal.returns-in-len1-up-empty
returns-in-len1-up-empty g t c = too_few_spans (g.B.Bounds.rules c.args.bounds.now) (binders_of c.args.binders.now) c.args.inner.now c.args.outer.now (omega (arith, ltb-true, ltb-false)) (omega (arith, ltb-true, ltb-false))
