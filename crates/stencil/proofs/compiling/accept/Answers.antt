use Rattle.algo.specs.View.{algorithm_of}
use Rattle.stencil.proofs.Compiled.{unaccepted}
use Rattle.stencil.proofs.compiling.accept.Goals as goal

pub returns-in-Err-clause-refused : goal.returns-in-Err-clause-refused
returns-in-Err-clause-refused g c = rw c.with_limit.ensures (unaccepted (algorithm_of c.args.algo.now) c.args.file.now c.in-Err.fault c.in-Err.ensures.refused)
