use Rattle.meaning.proofs.image.laws.raster_is_order.Goals as goal
use Rattle.meaning.proofs.Places.{raster_is_order}

pub returns : goal.returns
returns c = raster_is_order
