use Rattle.std.proofs.Common.{length}
use Rattle.regions.proofs.regions.+least_number.Given as goal

abbrev pub decreases-least_number : goal.decreases-least_number
decreases-least_number l = length l.forms.now
