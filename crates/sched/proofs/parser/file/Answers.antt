use Rattle.std.proofs.Common.{◌≡◌, List, Result, [], ◌+◌, ◌-◌, ◌++◌, ◌∷◌, length, map, ap, ◌∙◌, subst, sym}
use Rattle.std.proofs.lemmas.Result.{err_from_is_err_and}
use Rattle.tree.specs.Token.Cursor.{kinds}
use Rattle.sched.specs.declared.error.Refusal.{Refusal}
use Rattle.sched.specs.Schedule.{Schedule}
use Rattle.sched.specs.View.{scheduled_of, schedule_of}
use Rattle.sched.specs.Reading.{Gives, functions, file}
use Rattle.sched.proofs.Turns.{file_is_functions, functions_end, function_stops, functions_go_on, functions_are_done, map_pushed}
use Rattle.sched.proofs.parser.file.Goals as goal

pub loop-init : goal.loop-init
loop-init c =
    let tokens = c.args.tokens.now in
    let none : map scheduled_of c.new-found.result.items ≡ [] = ap (map scheduled_of) c.new-found.ensures.items in
    subst (λ (ys : Schedule). functions (length tokens - 0) ys (kinds tokens) ≡ file (kinds tokens)) (sym none) (file_is_functions tokens)

pub returns-then-is_done : goal.returns-then-is_done
returns-then-is_done c =
    let total = functions_end (length c.args.tokens.now) c.loop.counter (map scheduled_of c.loop.found.items) (file (kinds c.args.tokens.now)) (kinds c.loop.rest.now) c.if-is_done.ensures c.loop.invariant in
    subst (λ (r : Result Schedule Refusal). Gives schedule_of c.ended.result r) total c.ended.ensures

pub returns-in_err-item : goal.returns-in_err-item
returns-in_err-item c =
    let p = err_from_is_err_and c.from_residual.result c.from_residual.ensures.1 in
    rw (p.1, p.2) (function_stops (length c.args.tokens.now) c.loop.counter (map scheduled_of c.loop.found.items) (file (kinds c.args.tokens.now)) c.in_err-item.field-0.0 (kinds c.loop.rest.now) c.loop-test.true c.if-is_done.ensures c.loop.invariant c.in_err-item.ensures)

pub loop-preserved : goal.loop-preserved
loop-preserved c =
    let tokens = c.args.tokens.now in
    let pushed : map scheduled_of c.push.new.self.items ≡ map scheduled_of c.loop.found.items ++ scheduled_of c.in_ok-item.item ∷ [] = ap (map scheduled_of) c.in_ok-push.ensures.items ∙ map_pushed scheduled_of c.loop.found.items c.in_ok-item.item in
    let go = functions_go_on (length tokens) c.loop.counter (map scheduled_of c.loop.found.items) (file (kinds tokens)) (scheduled_of c.in_ok-item.item) (kinds c.loop.rest.now) (kinds c.scheduled.new.tokens.now) c.loop-test.true c.if-is_done.ensures c.loop.invariant c.in_ok-item.ensures in
    subst (λ (ys : Schedule). functions (length tokens - (c.loop.counter + 1)) ys (kinds c.scheduled.new.tokens.now) ≡ file (kinds tokens)) (sym pushed) go

pub returns : goal.returns
returns c =
    let total = functions_are_done (length c.args.tokens.now) c.loop.counter (map scheduled_of c.loop.found.items) (file (kinds c.args.tokens.now)) (kinds c.loop.rest.now) c.loop-test.false c.loop.invariant in
    subst (λ (r : Result Schedule Refusal). Gives schedule_of c.ended-2.result r) total c.ended-2.ensures
