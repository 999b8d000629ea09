use Rattle.std.proofs.Common.{length}
use Rattle.tails.proofs.maps.+each_exactly.Given as goal

abbrev pub decreases-each_exactly : goal.decreases-each_exactly
decreases-each_exactly l = length l.forms.now
