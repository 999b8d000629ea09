use Rattle.std.proofs.Common.{◌≡◌, true, false, ap, ◌∙◌}
use Rattle.spelling.specs.Words.Reading.{begins}
use Rattle.spelling.specs.Sizes.Sizes.{size_from}
use Rattle.spelling.proofs.WordsTurns.{separated_end, separated_go_on, separated_done}
use Rattle.spelling.proofs.sizes.reading.sizes_by_commas.Goals as goal

pub returns-then-not-begins-clause-sizes : goal.returns-then-not-begins-clause-sizes
returns-then-not-begins-clause-sizes c =
    let none : begins 44 c.size_from-size.result.1.now ≡ false = cc in
    c.in_ok-push.ensures.items ∙ ap (λ r. r.0) (separated_end 44 size_from c.args.most c.loop.counter c.loop.found.items c.loop.rest.now _ c.loop.invariant c.size_from-size.result.0 c.size_from-size.result.1.now c.size_from-size.ensures.size c.size_from-size.ensures.rest c.loop-test.true none)

pub returns-then-not-begins-clause-rest : goal.returns-then-not-begins-clause-rest
returns-then-not-begins-clause-rest c =
    let none : begins 44 c.size_from-size.result.1.now ≡ false = cc in
    ap (λ r. r.1) (separated_end 44 size_from c.args.most c.loop.counter c.loop.found.items c.loop.rest.now _ c.loop.invariant c.size_from-size.result.0 c.size_from-size.result.1.now c.size_from-size.ensures.size c.size_from-size.ensures.rest c.loop-test.true none)

pub loop-preserved : goal.loop-preserved
loop-preserved c =
    let some : begins 44 c.size_from-size.result.1.now ≡ true = cc in
    rw (c.in_ok-push.ensures.items, c.skip-rest.ensures) (separated_go_on 44 size_from c.args.most c.loop.counter c.loop.found.items c.loop.rest.now _ c.loop.invariant c.size_from-size.result.0 c.size_from-size.result.1.now c.size_from-size.ensures.size c.size_from-size.ensures.rest c.loop-test.true some)

pub returns-clause-sizes : goal.returns-clause-sizes
returns-clause-sizes c = ap (λ r. r.0) (separated_done 44 size_from c.args.most c.loop.counter c.loop.found.items c.loop.rest.now _ c.loop.invariant c.loop-test.false)

pub returns-clause-rest : goal.returns-clause-rest
returns-clause-rest c = ap (λ r. r.1) (separated_done 44 size_from c.args.most c.loop.counter c.loop.found.items c.loop.rest.now _ c.loop.invariant c.loop-test.false)
