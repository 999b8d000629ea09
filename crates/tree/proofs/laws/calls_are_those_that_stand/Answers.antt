use Rattle.std.proofs.Common.{IsTrue}
use Rattle.tree.proofs.Uses.{all_made, each_stands}
use Rattle.tree.proofs.laws.calls_are_those_that_stand.Goals as goal

pub returns : goal.returns
returns c test variables answers a = (each_stands (λ x. IsTrue (test x)) variables answers a, all_made (λ x. IsTrue (test x)) variables answers a)
