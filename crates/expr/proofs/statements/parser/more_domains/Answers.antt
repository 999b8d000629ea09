use Rattle.std.proofs.Common.{◌≡◌, ◌++◌, ◌∷◌, [], length, map, ap, ◌∙◌, All, subst, sym}
use Rattle.std.proofs.lemmas.Result.{err_from_is_err_and}
use Rattle.std.proofs.lemmas.List.Elements.{All-push}
use Rattle.std.specs.List.{flat_map}
use Rattle.tree.specs.Token.Cursor.{kinds}
use Rattle.expr.specs.Statements.View.{domain_text}
use Rattle.expr.specs.Statements.Reading.{domain}
use Rattle.expr.specs.Statements.Standing.{DomainStands}
use Rattle.expr.proofs.Standing.{after_kept}
use Rattle.expr.specs.Statements.Marks.{StandIn, domain_marks}
use Rattle.expr.proofs.Marked.{after_part, left_out, marks_pushed}
use Rattle.expr.proofs.StatementsTurns.{items_end, item_stops, items_go_on, items_are_done, map_pushed}
use Rattle.expr.proofs.statements.parser.more_domains.Goals as goal

pub returns-in_default-clause-read : goal.returns-in_default-clause-read
returns-in_default-clause-read c =
    items_end domain (length c.args.tokens.now) c.loop.counter (map domain_text c.loop.found.items) (kinds c.loop.rest.now) _ c.loop.invariant.read c.loop-test.true c.in_default.ensures.kinds

pub returns-in_err-item-clause-read : goal.returns-in_err-item-clause-read
returns-in_err-item-clause-read c =
    let p = err_from_is_err_and c.from_residual.result c.from_residual.ensures.1 in
    rw (p.1, p.2) (item_stops domain (length c.args.tokens.now) c.loop.counter (map domain_text c.loop.found.items) (kinds c.loop.rest.now) _ c.loop.invariant.read c.in_err-item.field-0.0 (kinds c.in-Some.next.now) c.loop-test.true c.in-Some.ensures.kinds c.in_err-item.ensures.read)

pub loop-preserved : goal.loop-preserved
loop-preserved c =
    let pushed : map domain_text c.push.new.self.items ≡ map domain_text c.loop.found.items ++ domain_text c.in_ok-item.item ∷ [] = ap (map domain_text) c.in_ok-push.ensures.items ∙ map_pushed domain_text c.loop.found.items c.in_ok-item.item in
    record {
      read = rw pushed (items_go_on domain (length c.args.tokens.now) c.loop.counter (map domain_text c.loop.found.items) (kinds c.loop.rest.now) _ c.loop.invariant.read (domain_text c.in_ok-item.item) (kinds c.in-Some.next.now) (kinds c.in_ok-item.left.now) c.loop-test.true c.in-Some.ensures.kinds c.in_ok-item.ensures.read);
      stands = λ text h k.
          let before = c.loop.invariant.stands text h k in
          let now = c.in_ok-item.ensures.stands text (after_kept text c.loop.rest.now c.in-Some.next.now c.in-Some.ensures.rest before.0) in
          (now.0, subst (All (DomainStands text)) (sym c.in_ok-push.ensures.items) (All-push (DomainStands text) c.loop.found.items c.in_ok-item.item before.1 now.1));
      placed = λ before h.
          let item = after_part [] (domain_marks c.in_ok-item.item) c.loop.rest.now c.in-Some.next.now c.in_ok-item.left.now (left_out 1 c.loop.rest.now c.in-Some.next.now c.in-Some.ensures.rest) c.in_ok-item.ensures.placed in
          subst (λ ms. StandIn ms before c.in_ok-item.left.now) (sym (marks_pushed domain_marks c.loop.found.items c.push.new.self.items c.in_ok-item.item c.in_ok-push.ensures.items))
          (after_part (flat_map domain_marks c.loop.found.items) (domain_marks c.in_ok-item.item) before c.loop.rest.now c.in_ok-item.left.now (c.loop.invariant.placed before h) item);
    }

pub returns-clause-read : goal.returns-clause-read
returns-clause-read c = items_are_done domain (length c.args.tokens.now) c.loop.counter (map domain_text c.loop.found.items) (kinds c.loop.rest.now) _ c.loop.invariant.read c.loop-test.false
