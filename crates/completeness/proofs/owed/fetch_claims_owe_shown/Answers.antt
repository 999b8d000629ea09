use Rattle.completeness.proofs.FetchClaims.{all_made}
use Rattle.completeness.proofs.owed.fetch_claims_owe_shown.Goals as goal

pub returns : goal.returns
returns c = all_made
