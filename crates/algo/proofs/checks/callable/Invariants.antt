use Rattle.std.proofs.Common.{◌≡◌, drop}
use Rattle.meaning.specs.Conditions.{callable}
use Rattle.algo.specs.Parts.{functions_of}
use Rattle.algo.specs.Context.{only_input}
use Rattle.algo.proofs.checks.callable.Given as goal

abbrev pub invariant-loop-known : goal.invariant-loop-known
invariant-loop-known l = callable (only_input l.input) (functions_of l.functions) l.name ≡ callable (only_input l.input) (functions_of (drop l.known-index l.functions)) l.name
