use Rattle.std.proofs.Common.{◌≡◌, true, false, ap, ◌∙◌}
use Rattle.spelling.specs.Words.Reading.{begins, span_from}
use Rattle.spelling.proofs.WordsTurns.{separated_end, separated_go_on, separated_done}
use Rattle.spelling.proofs.words.reading.spans_from.Goals as goal

pub returns-then-not-begins-clause-spans : goal.returns-then-not-begins-clause-spans
returns-then-not-begins-clause-spans c =
    let none : begins 59 c.in_ok-span.next.now ≡ false = cc in
    c.in_ok-push.ensures.ok ∙ ap (λ r. r.0) (separated_end 59 span_from c.args.most c.loop.counter c.loop.found c.loop.rest.now _ c.loop.invariant c.in_ok-span.span c.in_ok-span.next.now c.in_ok-span.ensures.span c.in_ok-span.ensures.rest c.loop-test.true none)

pub returns-then-not-begins-clause-rest : goal.returns-then-not-begins-clause-rest
returns-then-not-begins-clause-rest c =
    let none : begins 59 c.in_ok-span.next.now ≡ false = cc in
    ap (λ r. r.1) (separated_end 59 span_from c.args.most c.loop.counter c.loop.found c.loop.rest.now _ c.loop.invariant c.in_ok-span.span c.in_ok-span.next.now c.in_ok-span.ensures.span c.in_ok-span.ensures.rest c.loop-test.true none)

pub loop-preserved : goal.loop-preserved
loop-preserved c =
    let some : begins 59 c.in_ok-span.next.now ≡ true = cc in
    rw (c.in_ok-push.ensures.ok, c.skip-rest.ensures) (separated_go_on 59 span_from c.args.most c.loop.counter c.loop.found c.loop.rest.now _ c.loop.invariant c.in_ok-span.span c.in_ok-span.next.now c.in_ok-span.ensures.span c.in_ok-span.ensures.rest c.loop-test.true some)

pub returns-clause-spans : goal.returns-clause-spans
returns-clause-spans c = ap (λ r. r.0) (separated_done 59 span_from c.args.most c.loop.counter c.loop.found c.loop.rest.now _ c.loop.invariant c.loop-test.false)

pub returns-clause-rest : goal.returns-clause-rest
returns-clause-rest c = ap (λ r. r.1) (separated_done 59 span_from c.args.most c.loop.counter c.loop.found c.loop.rest.now _ c.loop.invariant c.loop-test.false)
