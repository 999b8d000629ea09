use Rattle.std.proofs.Common.{refl}
use Rattle.tree.specs.Laws.{AnswersAlike}
use Rattle.tree.proofs.Uses.{each_stands, same_use}
use Rattle.tree.proofs.laws.value_follows_calls.Goals as goal

pub returns : goal.returns
returns c variables answers others a h = same_use variables variables answers others a (λ k d lt. refl) (each_stands (AnswersAlike answers others) variables answers a h)
