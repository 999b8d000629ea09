use Rattle.std.proofs.Common.{◌≡◌, ◌∙◌, ◌≤◌, ◌^◌, ℕ, List, ap, arith, get_or}
use Rattle.shares.specs.declared.seats.Seat.{Seat}
use Rattle.shares.proofs.Blocking.{all_more, all_none, all_taken}
use Rattle.shares.proofs.blocks.least_at.Goals as goal

pub loop-seat-init : goal.loop-seat-init
loop-seat-init c = record { least = all_none (λ (x : Seat). 2 ^ 20 ≤ get_or x.at.items c.args.place 0); small = omega arith }

pub loop-seat-preserved : goal.loop-seat-preserved
loop-seat-preserved c =
    let i = c.args.place in
    let s : Seat = c.seat-item.result in
    let v : c.number_at.result ≡ get_or s.at.items i 0 = c.number_at.ensures ∙ ap (λ (xs : List ℕ). get_or xs i 0) c.deref.ensures.value in
    let m = c.min-found.ensures in
    let small = c.loop-seat.invariant.small in
    record {
      least = all_more (λ (x : Seat). c.loop-seat.found ≤ get_or x.at.items i 0) (λ (x : Seat). c.min-found.result ≤ get_or x.at.items i 0) (λ x h. omega (arith, m, h))
          c.args.seats.now c.loop-seat.seat-index s c.loop-seat-test.true c.seat-item.is c.loop-seat.invariant.least (omega (arith, m, v));
      small = omega (arith, m, small);
    }

pub returns-clause-least : goal.returns-clause-least
returns-clause-least c =
    let end = c.loop-seat.auto.seat-index-end in
    let past = c.loop-seat-test.false in
    all_taken (λ (x : Seat). c.loop-seat.found ≤ get_or x.at.items c.args.place 0) c.args.seats.now c.loop-seat.seat-index (omega (arith, end, past)) c.loop-seat.invariant.least
