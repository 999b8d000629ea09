use Rattle.meaning.proofs.image.laws.sample_is_at_place.Goals as goal
use Rattle.meaning.proofs.Places.{sample_is_at_place}

pub returns : goal.returns
returns c = sample_is_at_place
