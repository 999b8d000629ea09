use Rattle.std.proofs.Common.{◌≡◌, List, [], ◌+◌, ◌-◌, ◌++◌, ◌∷◌, length, map, ap, ◌∙◌, subst, sym}
use Rattle.std.proofs.lemmas.Result.{err_from_is_err_and}
use Rattle.tree.specs.declared.token.token.Symbol.TheVariants.{Dot}
use Rattle.tree.specs.Token.Cursor.{kinds}
use Rattle.sched.specs.Schedule.{DirectiveText}
use Rattle.sched.specs.View.{directive_of}
use Rattle.sched.specs.Reading.{more_of, directive}
use Rattle.sched.proofs.Turns.{items_end, item_stops, items_go_on, items_are_done, map_pushed}
use Rattle.sched.proofs.parser.directives.Goals as goal

pub returns-in_default : goal.returns-in_default
returns-in_default c = items_end Dot directive (length c.args.tokens.now.now) c.loop.counter (map directive_of c.loop.found.items) (kinds c.loop.tokens.now) _ c.loop.invariant c.loop-test.true c.in_default.ensures.kinds

pub returns-in_err-item : goal.returns-in_err-item
returns-in_err-item c =
    let p = err_from_is_err_and c.from_residual.result c.from_residual.ensures.1 in
    rw (p.1, p.2) (item_stops Dot directive (length c.args.tokens.now.now) c.loop.counter (map directive_of c.loop.found.items) (kinds c.loop.tokens.now) _ c.loop.invariant c.in_err-item.field-0.0 (kinds c.in-Some.next.now) c.loop-test.true c.in-Some.ensures.kinds c.in_err-item.ensures)

pub loop-preserved : goal.loop-preserved
loop-preserved c =
    let tokens = c.args.tokens.now.now in
    let pushed : map directive_of c.push.new.self.items ≡ map directive_of c.loop.found.items ++ directive_of c.in_ok-item.item ∷ [] = ap (map directive_of) c.in_ok-push.ensures.items ∙ map_pushed directive_of c.loop.found.items c.in_ok-item.item in
    let go = items_go_on Dot directive (length tokens) c.loop.counter (map directive_of c.loop.found.items) (kinds c.loop.tokens.now) _ c.loop.invariant (directive_of c.in_ok-item.item) (kinds c.in-Some.next.now) (kinds c.directive.new.tokens.now) c.loop-test.true c.in-Some.ensures.kinds c.in_ok-item.ensures in
    subst (λ (ys : List DirectiveText). more_of Dot directive (length tokens - (c.loop.counter + 1)) ys (kinds c.directive.new.tokens.now) ≡ more_of Dot directive (length tokens) [] (kinds tokens)) (sym pushed) go

pub returns : goal.returns
returns c = items_are_done Dot directive (length c.args.tokens.now.now) c.loop.counter (map directive_of c.loop.found.items) (kinds c.loop.tokens.now) _ c.loop.invariant c.loop-test.false
