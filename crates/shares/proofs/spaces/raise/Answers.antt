use Rattle.std.proofs.Common.{ℕ, ◌+◌, ◌<◌, length, get_or, sym, subst, arith}
use Rattle.std.proofs.lemmas.List.{get_or_default}
use Rattle.std.proofs.lemmas.List.Edits.{map_over_more}
use Rattle.shares.proofs.spaces.raise.Goals as goal

pub loop-place-preserved : goal.loop-place-preserved
loop-place-preserved c =
    let numbers = c.loop-place.numbers in
    let place = c.loop-place.place in
    let here = get_or numbers place 0 in
    let within : place < length numbers = omega (arith, c.loop-place-test.true, c.loop-place.auto.numbers) in
    map_over_more (λ n. c.args.first + n) c.args.numbers.now numbers place here c.loop-place-test.true c.loop-place.invariant (get_or_default numbers place 0 here within)
