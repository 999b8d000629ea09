use Rattle.shares.proofs.Having.{none_fetching}
use Rattle.shares.proofs.laws.wrong_fetches_have_no_shares.Goals as goal

pub returns : goal.returns
returns c = none_fetching
