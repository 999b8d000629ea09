use Rattle.std.proofs.Common.{◌≡◌, ◌++◌, ◌∷◌, [], length, map, ap, ◌∙◌, subst, sym}
use Rattle.std.proofs.lemmas.Result.{err_from_is_err_and}
use Rattle.std.specs.List.{flat_map}
use Rattle.tree.specs.Token.Cursor.{kinds}
use Rattle.tree.specs.Term.{term_of}
use Rattle.expr.specs.Statements.Reading.{expression}
use Rattle.expr.proofs.Standing.{after_kept}
use Rattle.expr.specs.Statements.Marks.{StandIn, expression_marks}
use Rattle.expr.proofs.Marked.{after_part, left_out, marks_pushed}
use Rattle.expr.proofs.StatementsTurns.{items_end, item_stops, items_go_on, items_are_done, map_pushed}
use Rattle.expr.proofs.statements.parser.more_expressions.Goals as goal

pub returns-in_default-clause-read : goal.returns-in_default-clause-read
returns-in_default-clause-read c =
    items_end expression (length c.args.tokens.now) c.loop.counter (map term_of c.loop.found.items) (kinds c.loop.rest.now) _ c.loop.invariant.read c.loop-test.true c.in_default.ensures.kinds

pub returns-in_err-item-clause-read : goal.returns-in_err-item-clause-read
returns-in_err-item-clause-read c =
    let p = err_from_is_err_and c.from_residual.result c.from_residual.ensures.1 in
    rw (p.1, p.2) (item_stops expression (length c.args.tokens.now) c.loop.counter (map term_of c.loop.found.items) (kinds c.loop.rest.now) _ c.loop.invariant.read c.in_err-item.field-0.0 (kinds c.in-Some.next.now) c.loop-test.true c.in-Some.ensures.kinds c.in_err-item.ensures.read)

pub loop-preserved : goal.loop-preserved
loop-preserved c =
    let pushed : map term_of c.push.new.self.items ≡ map term_of c.loop.found.items ++ term_of c.in_ok-item.item ∷ [] = ap (map term_of) c.in_ok-push.ensures.items ∙ map_pushed term_of c.loop.found.items c.in_ok-item.item in
    record {
      read = rw pushed (items_go_on expression (length c.args.tokens.now) c.loop.counter (map term_of c.loop.found.items) (kinds c.loop.rest.now) _ c.loop.invariant.read (term_of c.in_ok-item.item) (kinds c.in-Some.next.now) (kinds c.in_ok-item.left.now) c.loop-test.true c.in-Some.ensures.kinds c.in_ok-item.ensures.read);
      kept = λ text h. c.in_ok-item.ensures.kept text (after_kept text c.loop.rest.now c.in-Some.next.now c.in-Some.ensures.rest (c.loop.invariant.kept text h));
      placed = λ before h.
          let item = after_part [] (expression_marks c.in_ok-item.item) c.loop.rest.now c.in-Some.next.now c.in_ok-item.left.now (left_out 1 c.loop.rest.now c.in-Some.next.now c.in-Some.ensures.rest) c.in_ok-item.ensures.placed in
          subst (λ ms. StandIn ms before c.in_ok-item.left.now) (sym (marks_pushed expression_marks c.loop.found.items c.push.new.self.items c.in_ok-item.item c.in_ok-push.ensures.items))
          (after_part (flat_map expression_marks c.loop.found.items) (expression_marks c.in_ok-item.item) before c.loop.rest.now c.in_ok-item.left.now (c.loop.invariant.placed before h) item);
    }

pub returns-clause-read : goal.returns-clause-read
returns-clause-read c = items_are_done expression (length c.args.tokens.now) c.loop.counter (map term_of c.loop.found.items) (kinds c.loop.rest.now) _ c.loop.invariant.read c.loop-test.false
