use Rattle.std.proofs.Common.{◌≡◌, drop}
use Rattle.meaning.specs.Names.{is_among}
use Rattle.algo.specs.Parts.{functions_of}
use Rattle.algo.specs.Context.{function_names}
use Rattle.algo.proofs.statement.is_taken.Given as goal

abbrev pub invariant-loop-known : goal.invariant-loop-known
invariant-loop-known l = is_among (function_names (functions_of l.functions)) l.name ≡ is_among (function_names (functions_of (drop l.known-index l.functions))) l.name
