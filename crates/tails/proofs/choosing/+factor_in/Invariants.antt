use Rattle.std.proofs.Common.{length}
use Rattle.tails.proofs.choosing.+factor_in.Given as goal

abbrev pub decreases-factor_in : goal.decreases-factor_in
decreases-factor_in l = length l.forms.now
