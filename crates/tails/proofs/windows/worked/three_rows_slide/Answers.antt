use Rattle.tails.proofs.OfWindows.Computed.{three_rows_slide}
use Rattle.tails.proofs.windows.worked.three_rows_slide.Goals as goal

pub returns : goal.returns
returns c = three_rows_slide
