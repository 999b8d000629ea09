use Rattle.spelling.proofs.SizesSizes.{size_again, sizes_again}
use Rattle.spelling.proofs.sizes.laws.sizes_are_read_again.Goals as goal

pub returns-clause-sizes : goal.returns-clause-sizes
returns-clause-sizes c = size_again

pub returns-clause-lists_of_sizes : goal.returns-clause-lists_of_sizes
returns-clause-lists_of_sizes c = sizes_again
