use Rattle.std.proofs.Common.{◌≡◌, true, false, ap, length, ◌∙◌}
use Rattle.spelling.specs.Words.Reading.{begins, form_from}
use Rattle.spelling.proofs.WordsTurns.{separated_end, separated_go_on, separated_done}
use Rattle.spelling.proofs.words.reading.forms_from.Goals as goal

pub returns-then-not-begins-clause-forms : goal.returns-then-not-begins-clause-forms
returns-then-not-begins-clause-forms c =
    let none : begins 44 c.in_ok-form.next.now ≡ false = cc in
    c.in_ok-push.ensures.ok ∙ ap (λ r. r.0) (separated_end 44 form_from (length c.args.text.now) c.loop.counter c.loop.found c.loop.rest.now _ c.loop.invariant c.in_ok-form.form c.in_ok-form.next.now c.in_ok-form.ensures.form c.in_ok-form.ensures.rest c.loop-test.true none)

pub returns-then-not-begins-clause-rest : goal.returns-then-not-begins-clause-rest
returns-then-not-begins-clause-rest c =
    let none : begins 44 c.in_ok-form.next.now ≡ false = cc in
    ap (λ r. r.1) (separated_end 44 form_from (length c.args.text.now) c.loop.counter c.loop.found c.loop.rest.now _ c.loop.invariant c.in_ok-form.form c.in_ok-form.next.now c.in_ok-form.ensures.form c.in_ok-form.ensures.rest c.loop-test.true none)

pub loop-preserved : goal.loop-preserved
loop-preserved c =
    let some : begins 44 c.in_ok-form.next.now ≡ true = cc in
    rw (c.in_ok-push.ensures.ok, c.skip-rest.ensures) (separated_go_on 44 form_from (length c.args.text.now) c.loop.counter c.loop.found c.loop.rest.now _ c.loop.invariant c.in_ok-form.form c.in_ok-form.next.now c.in_ok-form.ensures.form c.in_ok-form.ensures.rest c.loop-test.true some)

pub returns-clause-forms : goal.returns-clause-forms
returns-clause-forms c = ap (λ r. r.0) (separated_done 44 form_from (length c.args.text.now) c.loop.counter c.loop.found c.loop.rest.now _ c.loop.invariant c.loop-test.false)

pub returns-clause-rest : goal.returns-clause-rest
returns-clause-rest c = ap (λ r. r.1) (separated_done 44 form_from (length c.args.text.now) c.loop.counter c.loop.found c.loop.rest.now _ c.loop.invariant c.loop-test.false)
