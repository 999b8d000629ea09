use Rattle.std.proofs.Common.{inl}
use Rattle.std.proofs.lemmas.Result.{IfErr-weaker}
use Rattle.commands.proofs.comparing.picture_watched.Goals as goal

pub returns-clause-refused : goal.returns-clause-refused
returns-clause-refused g c =
    IfErr-weaker c.plan_picture.result _ _ (λ fault h. inl h) c.plan_picture.ensures.refused
