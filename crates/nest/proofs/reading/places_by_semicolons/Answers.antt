use Rattle.std.proofs.Common.{◌≡◌, true, false, ap, ◌∙◌}
use Rattle.spelling.specs.Words.Reading.{begins}
use Rattle.spelling.proofs.WordsTurns.{separated_end, separated_go_on, separated_done}
use Rattle.nest.specs.Reading.{place_from}
use Rattle.nest.proofs.reading.places_by_semicolons.Goals as goal

pub returns-then-not-begins : goal.returns-then-not-begins
returns-then-not-begins c =
    let none : begins 59 c.in_ok-place.next.now ≡ false = cc in
    c.in_ok-push.ensures.items ∙ ap (λ r. r.0) (separated_end 59 place_from c.args.most c.loop.counter c.loop.found.items c.loop.rest.now _ c.loop.invariant c.in_ok-place.place c.in_ok-place.next.now c.in_ok-place.ensures.place c.in_ok-place.ensures.rest c.loop-test.true none)

pub loop-preserved : goal.loop-preserved
loop-preserved c =
    let some : begins 59 c.in_ok-place.next.now ≡ true = cc in
    rw (c.in_ok-push.ensures.items, c.skip-rest.ensures) (separated_go_on 59 place_from c.args.most c.loop.counter c.loop.found.items c.loop.rest.now _ c.loop.invariant c.in_ok-place.place c.in_ok-place.next.now c.in_ok-place.ensures.place c.in_ok-place.ensures.rest c.loop-test.true some)

pub returns : goal.returns
returns c = ap (λ r. r.0) (separated_done 59 place_from c.args.most c.loop.counter c.loop.found.items c.loop.rest.now _ c.loop.invariant c.loop-test.false)
