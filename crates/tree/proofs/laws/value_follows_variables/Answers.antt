use Rattle.std.proofs.Common.{refl}
use Rattle.tree.proofs.Uses.{each_call, same_use, SameAnswer}
use Rattle.tree.proofs.laws.value_follows_variables.Goals as goal

pub returns : goal.returns
returns c variables others answers a h = same_use variables others answers answers a h (each_call (SameAnswer variables others answers answers) (λ name at. refl) a)
