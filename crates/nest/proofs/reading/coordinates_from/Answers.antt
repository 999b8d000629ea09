use Rattle.std.proofs.Common.{◌≡◌, true, false, [], ◌∷◌, ap, map}
use Rattle.std.proofs.lemmas.List.{map-append}
use Rattle.plan.specs.View.{coordinate_of}
use Rattle.nest.specs.Reading.{has_blank}
use Rattle.spelling.specs.Words.Reading.{begins}
use Rattle.nest.proofs.Turns.{coordinates_end, coordinates_go_on, coordinates_done, no_word_before, no_blank_behind, word_and_blank}
use Rattle.nest.proofs.reading.coordinates_from.Goals as goal

pub returns-then-not-has_blank-clause-coordinates : goal.returns-then-not-has_blank-clause-coordinates
returns-then-not-has_blank-clause-coordinates c =
    let none : has_blank c.loop.rest.now ≡ false = cc in
    ap (λ r. r.0) (coordinates_end c.args.most c.loop.counter (map coordinate_of c.loop.found.items) c.loop.rest.now _ c.loop.invariant c.loop-test.true (no_word_before c.loop.rest.now none))

pub returns-then-not-begins-clause-coordinates : goal.returns-then-not-begins-clause-coordinates
returns-then-not-begins-clause-coordinates c =
    let none : begins 32 c.in_ok-coordinate.next.now ≡ false = cc in
    let stop = no_blank_behind c.loop.rest.now c.in_ok-coordinate.next.now c.in_ok-coordinate.ensures.rest none in
    ap (λ r. r.0) (coordinates_end c.args.most c.loop.counter (map coordinate_of c.loop.found.items) c.loop.rest.now _ c.loop.invariant c.loop-test.true stop)

pub returns-then-not-has_blank-clause-rest : goal.returns-then-not-has_blank-clause-rest
returns-then-not-has_blank-clause-rest c =
    let none : has_blank c.loop.rest.now ≡ false = cc in
    ap (λ r. r.1) (coordinates_end c.args.most c.loop.counter (map coordinate_of c.loop.found.items) c.loop.rest.now _ c.loop.invariant c.loop-test.true (no_word_before c.loop.rest.now none))

pub returns-then-not-begins-clause-rest : goal.returns-then-not-begins-clause-rest
returns-then-not-begins-clause-rest c =
    let none : begins 32 c.in_ok-coordinate.next.now ≡ false = cc in
    let stop = no_blank_behind c.loop.rest.now c.in_ok-coordinate.next.now c.in_ok-coordinate.ensures.rest none in
    ap (λ r. r.1) (coordinates_end c.args.most c.loop.counter (map coordinate_of c.loop.found.items) c.loop.rest.now _ c.loop.invariant c.loop-test.true stop)

pub loop-preserved : goal.loop-preserved
loop-preserved c =
    let word : has_blank c.loop.rest.now ≡ true = cc in
    let blank : begins 32 c.in_ok-coordinate.next.now ≡ true = cc in
    let some = word_and_blank c.loop.rest.now c.in_ok-coordinate.next.now c.in_ok-coordinate.ensures.rest word blank in
    rw (c.in_ok-push.ensures.items, c.skip-rest.ensures, map-append coordinate_of c.loop.found.items (c.in_ok-coordinate.coordinate ∷ []))
    (coordinates_go_on c.args.most c.loop.counter (map coordinate_of c.loop.found.items) c.loop.rest.now _ c.loop.invariant (coordinate_of c.in_ok-coordinate.coordinate) c.in_ok-coordinate.next.now c.in_ok-coordinate.ensures.coordinate c.in_ok-coordinate.ensures.rest c.loop-test.true some)

pub returns-clause-coordinates : goal.returns-clause-coordinates
returns-clause-coordinates c = ap (λ r. r.0) (coordinates_done c.args.most c.loop.counter (map coordinate_of c.loop.found.items) c.loop.rest.now _ c.loop.invariant c.loop-test.false)

pub returns-clause-rest : goal.returns-clause-rest
returns-clause-rest c = ap (λ r. r.1) (coordinates_done c.args.most c.loop.counter (map coordinate_of c.loop.found.items) c.loop.rest.now _ c.loop.invariant c.loop-test.false)
