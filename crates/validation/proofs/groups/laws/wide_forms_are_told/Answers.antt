use Rattle.validation.proofs.WideLines.{wide_told}
use Rattle.validation.proofs.groups.laws.wide_forms_are_told.Goals as goal

pub returns : goal.returns
returns c = wide_told
