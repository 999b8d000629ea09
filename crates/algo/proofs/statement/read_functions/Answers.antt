use Rattle.std.proofs.Common.{◌∙◌, Some, subst, sym, ap}
use Rattle.std.proofs.lemmas.List.{take-map}
use Rattle.std.proofs.lemmas.Option.{slice_get-map, slice_get-get_or}
use Rattle.std.specs.Option.{option_map}
use Rattle.expr.specs.Statements.View.{statement_text}
use Rattle.algo.specs.Parts.{names_of}
use Rattle.algo.specs.Context.{only_input}
use Rattle.algo.specs.Saying.{functions_said, after_statement, FollowsFunction, HasSmallExpressions}
use Rattle.algo.specs.Keeping.{Breaks, KeepsStatement}
use Rattle.algo.specs.Faults.{Tells, StatementFaultAt}
use Rattle.algo.proofs.Lists.{All-at}
use Rattle.algo.proofs.Placed.{item_at}
use Rattle.algo.proofs.Answered.{functions_said-more, follow_more}
use Rattle.algo.proofs.statement.read_functions.Goals as goal

pub read_statement-requires-clause-small : goal.read_statement-requires-clause-small
read_statement-requires-clause-small c = All-at HasSmallExpressions statement_text c.args.statements.now c.loop-statement.statement-index c.statement-item.result c.statement-item.is c.loop-statement-test.true c.requires.small

pub returns-in-Err-clause-refused : goal.returns-in-Err-clause-refused
returns-in-Err-clause-refused c =
    let i = c.loop-statement.statement-index in
    let xs = c.args.statements.now in
    let s = statement_text c.statement-item.result in
    record {
      place = i;
      statement = s;
      stands = slice_get-map statement_text xs i ∙ ap (λ o. option_map statement_text o) (slice_get-get_or xs i c.statement-item.result c.loop-statement-test.true ∙ ap Some (sym c.statement-item.is));
      broken = subst (λ fs. Breaks (λ code. KeepsStatement (only_input c.args.input.now) (names_of c.args.declared.now) fs code s) c.in-Err.error)
          (c.loop-statement.invariant.said ∙ ap functions_said (sym (take-map statement_text i xs))) c.in-Err.ensures.refused;
    }

pub returns-in-Err-clause-place : goal.returns-in-Err-clause-place
returns-in-Err-clause-place c =
    let i = c.loop-statement.statement-index in
    let s = c.statement-item.result in
    record {
      k = i;
      statement = s;
      stands = item_at c.args.statements.now i s c.statement-item.is c.loop-statement-test.true;
      fault = subst (λ fs. Tells (StatementFaultAt (only_input c.args.input.now) (names_of c.args.declared.now) fs s) c.in-Err.error) c.loop-statement.invariant.said c.in-Err.ensures.place;
    }

pub loop-statement-preserved : goal.loop-statement-preserved
loop-statement-preserved c =
    let more = functions_said-more statement_text c.args.statements.now c.loop-statement.statement-index c.statement-item.result c.statement-item.is c.loop-statement-test.true in
    let s = statement_text c.statement-item.result in
    record {
      said = c.in_default.ensures.said ∙ ap (λ fs. after_statement fs s) c.loop-statement.invariant.said ∙ sym more;
      functions = c.in_default.ensures.functions;
      follow = follow_more statement_text c.args.statements.now c.loop-statement.statement-index c.statement-item.result c.statement-item.is c.loop-statement-test.true c.loop-statement.invariant.follow
          (subst (λ fs. FollowsFunction fs s) c.loop-statement.invariant.said c.in_default.ensures.follows);
    }
