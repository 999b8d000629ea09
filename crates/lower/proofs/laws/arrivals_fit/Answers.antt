use Rattle.lower.proofs.Arriving.{arrivals_fit}
use Rattle.lower.proofs.laws.arrivals_fit.Goals as goal

pub returns : goal.returns
returns c = arrivals_fit
