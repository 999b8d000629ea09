use Rattle.lower.proofs.Guards.{told_numbers_are_kept}
use Rattle.lower.proofs.laws.told_numbers_are_kept.Goals as goal

pub returns : goal.returns
returns c = told_numbers_are_kept
