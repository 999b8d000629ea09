use Rattle.std.proofs.Common.{◌≡◌, ℕ, List, ◌+◌, ◌-◌, length, subst, sym}
use Rattle.std.proofs.lemmas.Result.{err_from_is_err_and}
use Rattle.tree.specs.declared.token.token.Symbol.TheVariants.{Comma}
use Rattle.tree.specs.Token.Cursor.{kinds}
use Rattle.sched.specs.Reading.{more_of, name}
use Rattle.sched.proofs.Turns.{items_end, item_stops, items_go_on, items_are_done}
use Rattle.sched.proofs.parser.more_names.Goals as goal

pub returns-in_default : goal.returns-in_default
returns-in_default c = items_end Comma name (length c.args.tokens.now.now) c.loop.counter c.loop.found.items (kinds c.loop.tokens.now) _ c.loop.invariant c.loop-test.true c.in_default.ensures.kinds

pub returns-in_err-item : goal.returns-in_err-item
returns-in_err-item c =
    let p = err_from_is_err_and c.from_residual.result c.from_residual.ensures.1 in
    rw (p.1, p.2) (item_stops Comma name (length c.args.tokens.now.now) c.loop.counter c.loop.found.items (kinds c.loop.tokens.now) _ c.loop.invariant c.in_err-item.field-0.0 (kinds c.in-Some.next.now) c.loop-test.true c.in-Some.ensures.kinds c.in_err-item.ensures)

pub loop-preserved : goal.loop-preserved
loop-preserved c =
    let tokens = c.args.tokens.now.now in
    let go = items_go_on Comma name (length tokens) c.loop.counter c.loop.found.items (kinds c.loop.tokens.now) _ c.loop.invariant c.in_ok-item.item (kinds c.in-Some.next.now) (kinds c.name.new.tokens.now) c.loop-test.true c.in-Some.ensures.kinds c.in_ok-item.ensures in
    subst (λ (ys : List (List ℕ)). more_of Comma name (length tokens - (c.loop.counter + 1)) ys (kinds c.name.new.tokens.now) ≡ more_of Comma name (length tokens) c.args.found.items (kinds tokens)) (sym c.in_ok-push.ensures.items) go

pub returns : goal.returns
returns c = items_are_done Comma name (length c.args.tokens.now.now) c.loop.counter c.loop.found.items (kinds c.loop.tokens.now) _ c.loop.invariant c.loop-test.false
