use Rattle.std.proofs.Common.{◌∙◌}
use Rattle.shares.proofs.Marking.{masks_bit, ones_above, ones_below, ones_inside}
use Rattle.shares.proofs.taken.ones.Goals as goal

pub returns-clause-inside : goal.returns-clause-inside
returns-clause-inside c i from to = masks_bit c.args.low c.args.high i c.requires.0 c.requires.1 ∙ ones_inside c.args.low c.args.high i c.requires.0 c.requires.1 from to

pub returns-clause-below : goal.returns-clause-below
returns-clause-below c i to = masks_bit c.args.low c.args.high i c.requires.0 c.requires.1 ∙ ones_below c.args.low c.args.high i to

pub returns-clause-above : goal.returns-clause-above
returns-clause-above c i from = masks_bit c.args.low c.args.high i c.requires.0 c.requires.1 ∙ ones_above c.args.low c.args.high i from
