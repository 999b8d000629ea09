use Rattle.completeness.proofs.AllocForms.{all_within}
use Rattle.completeness.proofs.laws.forms_are_within.Goals as goal

pub returns : goal.returns
returns c = all_within
