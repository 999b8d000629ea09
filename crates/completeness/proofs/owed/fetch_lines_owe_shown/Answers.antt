use Rattle.completeness.proofs.FetchSeats.{shown}
use Rattle.completeness.proofs.owed.fetch_lines_owe_shown.Goals as goal

pub returns : goal.returns
returns c = shown
