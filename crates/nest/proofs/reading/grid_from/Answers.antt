use Rattle.std.proofs.Common.{◌≡◌, true, false, ap, length, ◌∙◌}
use Rattle.spelling.specs.Words.Reading.{begins}
use Rattle.spelling.specs.Sizes.Sizes.{size_from}
use Rattle.spelling.proofs.WordsTurns.{separated_end, separated_go_on, separated_done}
use Rattle.nest.proofs.reading.grid_from.Goals as goal

pub returns-then-not-begins : goal.returns-then-not-begins
returns-then-not-begins c =
    let none : begins 32 c.size_from-count.result.1.now ≡ false = cc in
    c.in_ok-push.ensures.items ∙ ap (λ r. r.0) (separated_end 32 size_from (length c.args.text.now) c.loop.counter c.loop.found.items c.loop.rest.now _ c.loop.invariant c.size_from-count.result.0 c.size_from-count.result.1.now c.size_from-count.ensures.size c.size_from-count.ensures.rest c.loop-test.true none)

pub loop-preserved : goal.loop-preserved
loop-preserved c =
    let some : begins 32 c.size_from-count.result.1.now ≡ true = cc in
    rw (c.in_ok-push.ensures.items, c.skip-rest.ensures) (separated_go_on 32 size_from (length c.args.text.now) c.loop.counter c.loop.found.items c.loop.rest.now _ c.loop.invariant c.size_from-count.result.0 c.size_from-count.result.1.now c.size_from-count.ensures.size c.size_from-count.ensures.rest c.loop-test.true some)

pub returns : goal.returns
returns c = ap (λ r. r.0) (separated_done 32 size_from (length c.args.text.now) c.loop.counter c.loop.found.items c.loop.rest.now _ c.loop.invariant c.loop-test.false)
