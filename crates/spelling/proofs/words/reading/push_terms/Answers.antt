use Rattle.std.proofs.Common.{◌≡◌, true, false, length, slice_index, ap, refl}
use Rattle.spelling.specs.Words.Reading.{is_sign}
use Rattle.spelling.proofs.WordsTurns.{terms_end, terms_go_on, terms_done}
use Rattle.spelling.proofs.words.reading.push_terms.Goals as goal

pub returns-then-not-is_sign-clause-form : goal.returns-then-not-is_sign-clause-form
returns-then-not-is_sign-clause-form c =
    let none : is_sign (slice_index c.loop.rest.now 0) ≡ false = cc in
    let last = terms_end (length c.args.text.now) c.loop.counter c.loop.form.terms c.loop.rest.now _ c.loop.invariant.so_far c.loop-test.true none in
    rw (← c.loop.invariant.constant, ← ap (λ r. r.0) last) refl

pub returns-then-not-is_sign-clause-rest : goal.returns-then-not-is_sign-clause-rest
returns-then-not-is_sign-clause-rest c =
    let none : is_sign (slice_index c.loop.rest.now 0) ≡ false = cc in
    ap (λ r. r.1) (terms_end (length c.args.text.now) c.loop.counter c.loop.form.terms c.loop.rest.now _ c.loop.invariant.so_far c.loop-test.true none)

pub loop-preserved : goal.loop-preserved
loop-preserved c =
    let some : is_sign (slice_index c.loop.rest.now 0) ≡ true = cc in
    rw (c.in_ok-push_if_next.ensures, c.term_from.ensures.term, c.term_from.ensures.rest) (record {
      constant = c.loop.invariant.constant;
      so_far = terms_go_on (length c.args.text.now) c.loop.counter c.loop.form.terms c.loop.rest.now _ c.loop.invariant.so_far c.loop-test.true some;
    })

pub returns-clause-form : goal.returns-clause-form
returns-clause-form c =
    let last = terms_done (length c.args.text.now) c.loop.counter c.loop.form.terms c.loop.rest.now _ c.loop.invariant.so_far c.loop-test.false in
    rw (← c.loop.invariant.constant, ← ap (λ r. r.0) last) refl

pub returns-clause-rest : goal.returns-clause-rest
returns-clause-rest c = ap (λ r. r.1) (terms_done (length c.args.text.now) c.loop.counter c.loop.form.terms c.loop.rest.now _ c.loop.invariant.so_far c.loop-test.false)
