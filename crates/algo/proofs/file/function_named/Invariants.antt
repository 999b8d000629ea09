use Rattle.std.proofs.Common.{◌≡◌, drop}
use Rattle.meaning.specs.Conditions.{function_named}
use Rattle.algo.specs.Parts.{functions_of}
use Rattle.algo.proofs.file.function_named.Given as goal

abbrev pub invariant-loop-known : goal.invariant-loop-known
invariant-loop-known l = function_named (functions_of l.functions) l.name ≡ function_named (functions_of (drop l.known-index l.functions)) l.name
