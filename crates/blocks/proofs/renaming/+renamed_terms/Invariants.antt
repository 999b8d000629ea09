use Rattle.std.proofs.Common.{length}
use Rattle.blocks.proofs.renaming.+renamed_terms.Given as goal

abbrev pub decreases-renamed_terms : goal.decreases-renamed_terms
decreases-renamed_terms l = length l.terms.now
