use Rattle.crop.proofs.Whole.{picture_cut, values}
use Rattle.crop.proofs.laws.crop_law.Goals as goal

pub returns : goal.returns
returns c a cut samples w cl typed = record { picture = picture_cut a w cut cl samples typed; values = λ name at h some q. values a w cut cl samples typed name at h some q }
