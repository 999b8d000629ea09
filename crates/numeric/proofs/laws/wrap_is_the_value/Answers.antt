use Rattle.numeric.proofs.Wraps.{wraps_to, wraps_only, wrap_of_value}
use Rattle.numeric.proofs.laws.wrap_is_the_value.Goals as goal

pub returns : goal.returns
returns c = record { is = wraps_to; only = wraps_only; same = wrap_of_value }
