use Rattle.soundness.specs.Given.{outline_of}
use Rattle.validation.specs.Groups.Lines.{start}
use Rattle.validation.proofs.Flawless.{body_fine, group_fine}
use Rattle.validation.proofs.Actions.{defined}
use Rattle.validation.proofs.groups.laws.stores_are_definitions.Goals as goal

pub returns : goal.returns
returns c a p d h n g at samples s = let f = group_fine a p d h n g at in defined a p d g (outline_of p d n g) samples g.body (start f.line g) s (body_fine a p d n g f)
