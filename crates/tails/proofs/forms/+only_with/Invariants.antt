use Rattle.std.proofs.Common.{length}
use Rattle.tails.proofs.forms.+only_with.Given as goal

abbrev pub decreases-only_with : goal.decreases-only_with
decreases-only_with l = length l.forms.now
