use Rattle.std.proofs.Common.{◌≡◌, ◌++◌, ◌∷◌, [], length, map, ap, ◌∙◌, subst, sym}
use Rattle.std.proofs.lemmas.Result.{err_from_is_err_and}
use Rattle.std.specs.List.{flat_map}
use Rattle.tree.specs.Token.Cursor.{kinds}
use Rattle.expr.specs.Statements.View.{extent_text}
use Rattle.expr.specs.Statements.Reading.{number}
use Rattle.expr.proofs.Standing.{after_kept}
use Rattle.expr.specs.Statements.Marks.{StandIn, extent_marks}
use Rattle.expr.proofs.Marked.{after_part, left_out, marks_pushed, number_placed}
use Rattle.expr.proofs.StatementsTurns.{items_end, item_stops, items_go_on, items_are_done, map_pushed}
use Rattle.expr.proofs.statements.parser.more_numbers.Goals as goal

pub returns-in_default-clause-read : goal.returns-in_default-clause-read
returns-in_default-clause-read c =
    items_end number (length c.args.tokens.now) c.loop.counter (map extent_text c.loop.found.items) (kinds c.loop.rest.now) _ c.loop.invariant.read c.loop-test.true c.in_default.ensures.kinds

pub returns-in_err-item-clause-read : goal.returns-in_err-item-clause-read
returns-in_err-item-clause-read c =
    let p = err_from_is_err_and c.from_residual.result c.from_residual.ensures.1 in
    rw (p.1, p.2) (item_stops number (length c.args.tokens.now) c.loop.counter (map extent_text c.loop.found.items) (kinds c.loop.rest.now) _ c.loop.invariant.read c.in_err-item.field-0.0 (kinds c.in-Some.next.now) c.loop-test.true c.in-Some.ensures.kinds c.in_err-item.ensures.read)

pub loop-preserved : goal.loop-preserved
loop-preserved c =
    let pushed : map extent_text c.push.new.self.items ≡ map extent_text c.loop.found.items ++ extent_text c.in_ok-item.item ∷ [] = ap (map extent_text) c.in_ok-push.ensures.items ∙ map_pushed extent_text c.loop.found.items c.in_ok-item.item in
    record {
      read = rw pushed (items_go_on number (length c.args.tokens.now) c.loop.counter (map extent_text c.loop.found.items) (kinds c.loop.rest.now) _ c.loop.invariant.read (extent_text c.in_ok-item.item) (kinds c.in-Some.next.now) (kinds c.in_ok-item.left.now) c.loop-test.true c.in-Some.ensures.kinds c.in_ok-item.ensures.read);
      kept = λ text h. c.in_ok-item.ensures.kept text (after_kept text c.loop.rest.now c.in-Some.next.now c.in-Some.ensures.rest (c.loop.invariant.kept text h));
      placed = λ before h.
          let own = number_placed c.in-Some.next.now c.in_ok-item.left.now c.in_ok-item.item c.in_ok-item.ensures.read c.in_ok-item.ensures.at c.in_ok-item.ensures.rest in
          let item = after_part [] (extent_marks c.in_ok-item.item) c.loop.rest.now c.in-Some.next.now c.in_ok-item.left.now (left_out 1 c.loop.rest.now c.in-Some.next.now c.in-Some.ensures.rest) own in
          subst (λ ms. StandIn ms before c.in_ok-item.left.now) (sym (marks_pushed extent_marks c.loop.found.items c.push.new.self.items c.in_ok-item.item c.in_ok-push.ensures.items))
          (after_part (flat_map extent_marks c.loop.found.items) (extent_marks c.in_ok-item.item) before c.loop.rest.now c.in_ok-item.left.now (c.loop.invariant.placed before h) item);
    }

pub returns-clause-read : goal.returns-clause-read
returns-clause-read c = items_are_done number (length c.args.tokens.now) c.loop.counter (map extent_text c.loop.found.items) (kinds c.loop.rest.now) _ c.loop.invariant.read c.loop-test.false
