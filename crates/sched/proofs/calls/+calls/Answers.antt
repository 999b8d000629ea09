use Rattle.std.proofs.Common.{◌≡◌, ◌++◌, IfOk, List, map, sym, ap, subst, ◌∙◌}
use Rattle.tree.specs.Term.{term_of}
use Rattle.algo.specs.Scoping.Standing.{Written, calls_of}
use Rattle.sched.specs.Calls.{call_of}
use Rattle.sched.proofs.Calling.{call_added}
use Rattle.sched.proofs.calls.+calls.Goals as goal

pub with_calls-returns-in_ok-push-in-Call : goal.with_calls-returns-in_ok-push-in-Call
with_calls-returns-in_ok-push-in-Call t c =
    let known = c.args.known.items in
    let is = call_added known c.push.new.self.items (record { name = c.as_str.result; at = c.deref.result }) c.in-Call.name c.in-Call.at c.in-Call.span c.deref-in-Call.result.now
    c.as_str.ensures.value c.deref.ensures.value c.deref-in-Call.ensures.value c.in_ok-push-in-Call.ensures.items
    ∙ ap (λ e. map call_of known ++ calls_of (term_of e)) (sym c.in-Call.is) in
    let P : List Written → Type 0 = λ x. IfOk c.with_calls_of_all.result (λ v. map call_of v.items ≡ x) in
    subst P is c.with_calls_of_all.ensures
