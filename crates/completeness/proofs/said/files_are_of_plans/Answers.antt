use Rattle.completeness.proofs.MadeFiles.{files_are_of_plans}
use Rattle.completeness.proofs.said.files_are_of_plans.Goals as goal

pub returns : goal.returns
returns c = files_are_of_plans
