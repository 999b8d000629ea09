use Rattle.std.proofs.Common.{◌≡◌, ◌-◌, suc, length, true, false, refl, ap, sym, ◌∙◌, arith}
use Rattle.tree.specs.Term.{list_terms}
use Rattle.spelling.specs.Words.Reading.{begins}
use Rattle.spelling.specs.Terms.Reading.{within, indices_at}
use Rattle.spelling.proofs.TermsTurns.{pushed, row_ends, row_goes_on, row_is_done}
use Rattle.spelling.proofs.terms.reading.+read.Goals as goal

pub part-returns-then-brackets-eq0-clause-term : goal.part-returns-then-brackets-eq0-clause-term
unfolding within
part-returns-then-brackets-eq0-clause-term t c = rw c.if-brackets-eq0.true c.new_number.ensures

pub part-returns-then-brackets-eq0-clause-rest : goal.part-returns-then-brackets-eq0-clause-rest
unfolding within
part-returns-then-brackets-eq0-clause-rest t c = rw c.if-brackets-eq0.true refl

pub part-returns-clause-term : goal.part-returns-clause-term
unfolding within
part-returns-clause-term t c = let n : c.args.brackets ≡ suc (c.args.brackets - 1) = omega arith in rw n c.node.ensures.term

pub part-returns-clause-rest : goal.part-returns-clause-rest
unfolding within
part-returns-clause-rest t c = let n : c.args.brackets ≡ suc (c.args.brackets - 1) = omega arith in rw n c.node.ensures.rest

pub condition-returns-then-brackets-eq0-clause-test : goal.condition-returns-then-brackets-eq0-clause-test
unfolding within
condition-returns-then-brackets-eq0-clause-test t c = rw (c.if-brackets-eq0.true, c.new_comparison.ensures, c.new_number-left.ensures, c.new_number-right.ensures) refl

pub condition-returns-then-brackets-eq0-clause-rest : goal.condition-returns-then-brackets-eq0-clause-rest
unfolding within
condition-returns-then-brackets-eq0-clause-rest t c = rw c.if-brackets-eq0.true refl

pub condition-returns-clause-test : goal.condition-returns-clause-test
unfolding within
condition-returns-clause-test t c = let n : c.args.brackets ≡ suc (c.args.brackets - 1) = omega arith in rw n c.test.ensures.test

pub condition-returns-clause-rest : goal.condition-returns-clause-rest
unfolding within
condition-returns-clause-rest t c = let n : c.args.brackets ≡ suc (c.args.brackets - 1) = omega arith in rw n c.test.ensures.rest

pub indices-returns-then-not-begins-clause-terms : goal.indices-returns-then-not-begins-clause-terms
unfolding indices_at
indices-returns-then-not-begins-clause-terms t c =
    let inner = within c.args.below in
    let none : begins 44 (inner.term c.loop.rest.now).1 ≡ false = ap (begins 44) (sym c.in_ok-index.ensures.rest) ∙ cc in
    pushed c.loop.found.items c.push.new.self.items c.in_ok-index.index _ c.in_ok-push.ensures.items c.in_ok-index.ensures.term
    ∙ sym (ap (λ r. r.0) (row_ends inner (length c.args.text.now) c.loop.counter (list_terms c.loop.found.items) c.loop.rest.now _ c.loop.invariant c.loop-test.true none))

pub indices-returns-then-not-begins-clause-rest : goal.indices-returns-then-not-begins-clause-rest
unfolding indices_at
indices-returns-then-not-begins-clause-rest t c =
    let inner = within c.args.below in
    let none : begins 44 (inner.term c.loop.rest.now).1 ≡ false = ap (begins 44) (sym c.in_ok-index.ensures.rest) ∙ cc in
    c.in_ok-index.ensures.rest
    ∙ sym (ap (λ r. r.1) (row_ends inner (length c.args.text.now) c.loop.counter (list_terms c.loop.found.items) c.loop.rest.now _ c.loop.invariant c.loop-test.true none))

pub indices-loop-preserved : goal.indices-loop-preserved
indices-loop-preserved t c =
    let inner = within c.args.below in
    let some : begins 44 (inner.term c.loop.rest.now).1 ≡ true = ap (begins 44) (sym c.in_ok-index.ensures.rest) ∙ cc in
    rw (pushed c.loop.found.items c.push.new.self.items c.in_ok-index.index _ c.in_ok-push.ensures.items c.in_ok-index.ensures.term, c.skip-rest.ensures, c.in_ok-index.ensures.rest)
    (row_goes_on inner (length c.args.text.now) c.loop.counter (list_terms c.loop.found.items) c.loop.rest.now _ c.loop.invariant c.loop-test.true some)

pub indices-returns-clause-terms : goal.indices-returns-clause-terms
unfolding indices_at
indices-returns-clause-terms t c =
    sym (ap (λ r. r.0) (row_is_done (within c.args.below) (length c.args.text.now) c.loop.counter (list_terms c.loop.found.items) c.loop.rest.now _ c.loop.invariant c.loop-test.false))

pub indices-returns-clause-rest : goal.indices-returns-clause-rest
unfolding indices_at
indices-returns-clause-rest t c =
    sym (ap (λ r. r.1) (row_is_done (within c.args.below) (length c.args.text.now) c.loop.counter (list_terms c.loop.found.items) c.loop.rest.now _ c.loop.invariant c.loop-test.false))
