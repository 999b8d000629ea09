use Rattle.headline.proofs.Parts.{none_fetched}
use Rattle.headline.proofs.laws.nothing_is_fetched.Goals as goal

pub returns : goal.returns
returns c = none_fetched
