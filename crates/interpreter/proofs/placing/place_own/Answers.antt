use Rattle.interpreter.proofs.FoundRuns.{if_some}
use Rattle.interpreter.proofs.placing.place_own.Goals as goal

pub returns : goal.returns
returns c = if_some c.place_columns.result _ _ (λ _ h k lt. h c.args.target.buffer c.requires.first k lt) c.place_columns.ensures
