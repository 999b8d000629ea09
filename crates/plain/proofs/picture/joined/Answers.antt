use Rattle.plain.proofs.Joining.{back_fails}
use Rattle.plain.proofs.picture.joined.Goals as goal

pub returns-in_err-back : goal.returns-in_err-back
returns-in_err-back c f g budget xs ys h k = back_fails f g budget xs ys _ c.args.back c.in_err-back.field-0.0 c.from_residual-in_err-back.ensures.1 c.in_err-back.was k
