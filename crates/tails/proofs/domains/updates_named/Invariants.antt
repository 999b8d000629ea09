use Rattle.std.proofs.Common.{◌≡◌, drop}
use Rattle.soundness.specs.Given.{function_named}
use Rattle.algo.specs.Parts.{functions_of}
use Rattle.tails.proofs.domains.updates_named.Given as goal

abbrev pub invariant-loop-k : goal.invariant-loop-k
invariant-loop-k l = function_named (functions_of (drop l.k l.functions.entries)) l.name ≡ function_named (functions_of l.functions.entries) l.name
