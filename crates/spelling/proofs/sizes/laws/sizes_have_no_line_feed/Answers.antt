use Rattle.spelling.proofs.SizesSizes.{size_feedless, sizes_feedless}
use Rattle.spelling.proofs.sizes.laws.sizes_have_no_line_feed.Goals as goal

pub returns-clause-sizes : goal.returns-clause-sizes
returns-clause-sizes c = size_feedless

pub returns-clause-lists_of_sizes : goal.returns-clause-lists_of_sizes
returns-clause-lists_of_sizes c = sizes_feedless
