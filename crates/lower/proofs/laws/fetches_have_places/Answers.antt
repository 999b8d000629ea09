use Rattle.lower.proofs.Fetched.{fetches_seat}
use Rattle.lower.proofs.laws.fetches_have_places.Goals as goal

pub returns : goal.returns
returns c = fetches_seat
