use Rattle.validation.proofs.Clear.{clear}
use Rattle.validation.proofs.certificate.laws.no_flaw_is_clear.Goals as goal

pub returns : goal.returns
returns c = clear
