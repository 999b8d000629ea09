use Rattle.spelling.proofs.Rising.{below_last}
use Rattle.spelling.proofs.words.reading.are_below.Goals as goal

pub returns-in-len1-up : goal.returns-in-len1-up
returns-in-len1-up c = below_last c.args.terms.now c.args.symbol _ c.requires c.in-len1-up.len_at_least
