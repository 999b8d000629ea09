use Rattle.std.proofs.Common.{◌<◌, length, arith}
use Rattle.algo.specs.Parts.{function_of}
use Rattle.printer.specs.Tokens.{function_tokens}
use Rattle.printer.proofs.Lists.{more_got}
use Rattle.printer.proofs.statements.put_functions.Goals as goal

pub loop-number-preserved : goal.loop-number-preserved
loop-number-preserved c =
    let below = c.loop-number-test.true in
    let size = c.len-number-end.ensures.len in
    let lt : c.loop-number.number < length c.args.functions.now.entries = omega (arith, below, size) in
    more_got function_tokens function_of c.args.functions.now.entries c.loop-number.number (c.in-Some.name.now, c.in-Some.function.now) c.args.tokens.now.items c.loop-number.tokens.items c.put_function.new.tokens.items
    lt c.in-Some.ensures.entry c.loop-number.invariant c.in_ok-put_function-in-Some.ensures
