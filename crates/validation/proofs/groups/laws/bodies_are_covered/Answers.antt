use Rattle.soundness.specs.Given.{outline_of}
use Rattle.validation.specs.Groups.Lines.{start}
use Rattle.validation.proofs.Flawless.{body_fine, group_fine}
use Rattle.validation.proofs.Stores.{covered}
use Rattle.validation.proofs.groups.laws.bodies_are_covered.Goals as goal

pub returns : goal.returns
returns c a p d h n g at = let f = group_fine a p d h n g at in covered a p d g (outline_of p d n g) g.body (start f.line g) (body_fine a p d n g f)
