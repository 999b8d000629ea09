use Rattle.completeness.proofs.AllocForms.{within}
use Rattle.completeness.proofs.laws.alloc_forms_are_within.Goals as goal

pub returns : goal.returns
returns c = within
