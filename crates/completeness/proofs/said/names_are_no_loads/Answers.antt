use Rattle.completeness.proofs.NamesRead.{named_no_load}
use Rattle.completeness.proofs.said.names_are_no_loads.Goals as goal

pub returns : goal.returns
returns c = named_no_load
