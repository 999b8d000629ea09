use Rattle.soundness.specs.Given.{outline_of}
use Rattle.validation.specs.Groups.Lines.{start}
use Rattle.validation.proofs.Flawless.{body_fine, group_fine}
use Rattle.validation.proofs.Free.{is_free}
use Rattle.validation.proofs.groups.laws.stores_are_free.Goals as goal

pub returns : goal.returns
returns c a p d h n g at = let f = group_fine a p d h n g at in is_free a p (outline_of p d n g) d g g.body (start f.line g) (body_fine a p d n g f)
