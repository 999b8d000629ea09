use Rattle.completeness.proofs.FetchForms.{within}
use Rattle.completeness.proofs.laws.fetch_forms_are_within.Goals as goal

pub returns : goal.returns
returns c = within
