use Rattle.audit.proofs.OfVerdict.FetchesRead.{fetches_read}
use Rattle.audit.proofs.verdict.clear.fetches_are_read.Goals as goal

pub returns : goal.returns
returns c = fetches_read c.wide_forms_are_told.ensures c.limits_are_told.ensures
