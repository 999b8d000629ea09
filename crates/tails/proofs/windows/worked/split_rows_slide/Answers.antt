use Rattle.tails.proofs.OfWindows.Computed.{split_rows_slide}
use Rattle.tails.proofs.windows.worked.split_rows_slide.Goals as goal

pub returns : goal.returns
returns c = split_rows_slide
