use Rattle.lower.proofs.Settling.{guarded_positions_are_kept}
use Rattle.lower.proofs.laws.guarded_positions_are_kept.Goals as goal

pub returns : goal.returns
returns c = guarded_positions_are_kept
