use Rattle.std.proofs.Common.{◌≡◌, true, rules}
use Rattle.algo.specs.Parts.{function_of}
use Rattle.algo.specs.View.{algorithm_of}
use Rattle.crop.proofs.Alike.{next_made}
use Rattle.crop.proofs.rebuilding.has_functions.Goals as goal

pub loop-number-preserved : goal.loop-number-preserved
loop-number-preserved c =
    let yes : c.is_function.result ≡ true = search rules in
    next_made function_of (algorithm_of c.args.read.now).functions c.args.functions.now c.loop-number.number c.index-functions-number.result
    c.loop-number-test.true c.index-functions-number.is (c.is_function.ensures yes) c.loop-number.invariant
