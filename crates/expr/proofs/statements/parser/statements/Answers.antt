use Rattle.std.proofs.Common.{◌≡◌, ◌++◌, ◌∷◌, [], length, map, ap, ◌∙◌, All, Option, IfSome, subst, sym}
use Rattle.std.proofs.lemmas.Result.{err_from_is_err_and}
use Rattle.std.proofs.lemmas.List.Elements.{All-push}
use Rattle.std.specs.List.{flat_map}
use Rattle.tree.specs.Token.Cursor.{kinds}
use Rattle.expr.specs.declared.statements.statement.Statement.{Statement}
use Rattle.expr.specs.Statements.View.{statement_text}
use Rattle.expr.specs.Statements.Reading.{statement}
use Rattle.expr.specs.Statements.Standing.{StatementStands}
use Rattle.expr.specs.Statements.Marks.{StandIn, found_marks, statement_marks}
use Rattle.expr.proofs.Marked.{after_part, marks_pushed, passed}
use Rattle.expr.proofs.StatementsTurns.{statements_end, statement_stops, statements_go_on, statements_are_done, map_pushed, seen_none, seen_some}
use Rattle.expr.proofs.statements.parser.statements.Goals as goal

pub returns-in_err-item-clause-read : goal.returns-in_err-item-clause-read
returns-in_err-item-clause-read c =
    let p = err_from_is_err_and c.from_residual.result c.from_residual.ensures.1 in
    rw (p.1, p.2) (statement_stops (length c.args.tokens.now) c.loop.counter (map statement_text c.loop.found.items) (kinds c.loop.rest.now) _ c.loop.invariant.read c.in_err-item.field-0.0 c.loop-test.true c.in_err-item.ensures.read)

pub returns-in_default-clause-read : goal.returns-in_default-clause-read
returns-in_default-clause-read c =
    let none = seen_none statement_text (statement (kinds c.loop.rest.now)) c.in_ok-item.item (kinds c.in_ok-item.left.now) c.in_ok-item.ensures.read c.in_default.is in
    statements_end (length c.args.tokens.now) c.loop.counter (map statement_text c.loop.found.items) (kinds c.loop.rest.now) _ c.loop.invariant.read (kinds c.in_ok-item.left.now) c.loop-test.true none

pub loop-preserved : goal.loop-preserved
loop-preserved c =
    let some = seen_some statement_text (statement (kinds c.loop.rest.now)) c.in_ok-item.item c.in-Some.next (kinds c.in_ok-item.left.now) c.in_ok-item.ensures.read c.in-Some.is in
    let pushed : map statement_text c.push.new.self.items ≡ map statement_text c.loop.found.items ++ statement_text c.in-Some.next ∷ [] = ap (map statement_text) c.in_ok-push.ensures.items ∙ map_pushed statement_text c.loop.found.items c.in-Some.next in
    record {
      read = rw pushed (statements_go_on (length c.args.tokens.now) c.loop.counter (map statement_text c.loop.found.items) (kinds c.loop.rest.now) _ c.loop.invariant.read (statement_text c.in-Some.next) (kinds c.in_ok-item.left.now) c.loop-test.true some);
      stands = λ text h.
          let before = c.loop.invariant.stands text h in
          let now = c.in_ok-item.ensures.stands text before.0 in
          let this = subst (λ (o : Option Statement). IfSome o (StatementStands text)) c.in-Some.is now.1 in
          (now.0, subst (All (StatementStands text)) (sym c.in_ok-push.ensures.items) (All-push (StatementStands text) c.loop.found.items c.in-Some.next before.1 this));
      placed =
          let this = subst (λ (o : Option Statement). StandIn (found_marks o) c.loop.rest.now c.in_ok-item.left.now) c.in-Some.is c.in_ok-item.ensures.placed in
          subst (λ ms. StandIn ms c.args.tokens.now c.in_ok-item.left.now) (sym (marks_pushed statement_marks c.loop.found.items c.push.new.self.items c.in-Some.next c.in_ok-push.ensures.items))
          (after_part (flat_map statement_marks c.loop.found.items) (statement_marks c.in-Some.next) c.args.tokens.now c.loop.rest.now c.in_ok-item.left.now c.loop.invariant.placed this);
    }

pub returns-clause-read : goal.returns-clause-read
returns-clause-read c = statements_are_done (length c.args.tokens.now) c.loop.counter (map statement_text c.loop.found.items) (kinds c.loop.rest.now) _ c.loop.invariant.read c.loop-test.false

pub returns-in_default-clause-stands : goal.returns-in_default-clause-stands
returns-in_default-clause-stands c text h =
    let before = c.loop.invariant.stands text h in
    let now = c.in_ok-item.ensures.stands text before.0 in
    (now.0, before.1)

pub returns-in_default-clause-placed : goal.returns-in_default-clause-placed
returns-in_default-clause-placed c =
    let none = subst (λ (o : Option Statement). StandIn (found_marks o) c.loop.rest.now c.in_ok-item.left.now) c.in_default.is c.in_ok-item.ensures.placed in
    passed (flat_map statement_marks c.loop.found.items) c.args.tokens.now c.loop.rest.now c.in_ok-item.left.now c.loop.invariant.placed none
