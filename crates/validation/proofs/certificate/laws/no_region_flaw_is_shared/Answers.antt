use Rattle.validation.proofs.Clear.{without_flaws}
use Rattle.validation.proofs.certificate.laws.no_region_flaw_is_shared.Goals as goal

pub returns : goal.returns
returns c = without_flaws
