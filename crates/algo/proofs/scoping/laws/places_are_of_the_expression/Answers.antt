use Rattle.std.specs.Prelude.{IsTrue}
use Rattle.algo.proofs.Listed.{names_of, calls_at, all_listed, each_listed}
use Rattle.algo.proofs.scoping.laws.places_are_of_the_expression.Goals as goal

pub returns-clause-variables : goal.returns-clause-variables
returns-clause-variables c = names_of

pub returns-clause-calls : goal.returns-clause-calls
returns-clause-calls c = calls_at

pub returns-clause-each : goal.returns-clause-each
returns-clause-each c test a = (each_listed (λ name at. IsTrue (test name at)) a, all_listed (λ name at. IsTrue (test name at)) a)
