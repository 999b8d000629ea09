use Rattle.validation.proofs.Flawless.{published}
use Rattle.validation.proofs.groups.laws.groups_are_published.Goals as goal

pub returns : goal.returns
returns c a p d h owned n g at = published a p d h owned n g at
