use Rattle.tree.specs.Term.{term_of}
use Rattle.algo.specs.View.{algorithm_of}
use Rattle.blocks.proofs.Puts.{puts}
use Rattle.blocks.proofs.definitions.filled.Goals as goal

pub returns : goal.returns
returns c = puts (algorithm_of c.args.algo.now) c.args.stored.now (term_of c.args.expr.now) c.put_in.result c.put_in.ensures
