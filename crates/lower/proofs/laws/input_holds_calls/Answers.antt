use Rattle.lower.proofs.Shown.{input_holds}
use Rattle.lower.proofs.laws.input_holds_calls.Goals as goal

pub returns : goal.returns
returns c = input_holds
