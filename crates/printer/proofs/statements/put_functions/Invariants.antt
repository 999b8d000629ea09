use Rattle.std.proofs.Common.{◌≡◌, ◌++◌, map, take}
use Rattle.std.specs.List.{flat_map}
use Rattle.algo.specs.Parts.{functions_of}
use Rattle.printer.specs.Tokens.{function_tokens}
use Rattle.printer.proofs.statements.put_functions.Given as goal

abbrev pub invariant-loop-number : goal.invariant-loop-number
invariant-loop-number l = l.tokens.items ≡ l.fn.tokens.items ++ flat_map function_tokens (functions_of (take l.number l.functions.entries))
