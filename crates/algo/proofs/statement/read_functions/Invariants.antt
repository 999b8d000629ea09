use Rattle.std.proofs.Common.{◌≡◌, map, take}
use Rattle.expr.specs.Statements.View.{statement_text}
use Rattle.algo.specs.Parts.{functions_of}
use Rattle.algo.specs.Context.{only_input, AreFunctions}
use Rattle.algo.specs.Saying.{functions_said, FollowFunctions}
use Rattle.algo.proofs.statement.read_functions.Given as goal

abbrev pub invariant-loop-statement : goal.invariant-loop-statement
invariant-loop-statement l = record {
  said : functions_of l.functions.items ≡ functions_said (map statement_text (take l.statement-index l.statements));
  functions : AreFunctions (only_input l.input) (functions_of l.functions.items);
  follow : FollowFunctions (map statement_text (take l.statement-index l.statements));
}
