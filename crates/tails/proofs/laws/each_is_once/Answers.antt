use Rattle.tails.proofs.Once.{each_is_once}
use Rattle.tails.proofs.laws.each_is_once.Goals as goal

pub returns : goal.returns
returns c = each_is_once
