use Rattle.std.proofs.Common.{◌≡◌, ◌∙◌, ◌≤◌, ◌^◌, ℕ, List, ap, arith, get_or, subst, sym}
use Rattle.shares.specs.declared.seats.Seat.{Seat}
use Rattle.shares.specs.Boxes.{IsSmall}
use Rattle.shares.proofs.Blocking.{all_more, all_none, all_taken, small_at}
use Rattle.shares.proofs.blocks.greatest_at.Goals as goal

pub loop-seat-init : goal.loop-seat-init
loop-seat-init c = record { greatest = all_none (λ (x : Seat). get_or x.at.items c.args.place 0 ≤ 0); small = omega arith }

pub loop-seat-preserved : goal.loop-seat-preserved
loop-seat-preserved c =
    let i = c.args.place in
    let k = c.loop-seat.seat-index in
    let s : Seat = c.seat-item.result in
    let v : c.number_at.result ≡ get_or s.at.items i 0 = c.number_at.ensures ∙ ap (λ (xs : List ℕ). get_or xs i 0) c.deref.ensures.value in
    let m = c.max-found.ensures in
    let small = c.loop-seat.invariant.small in
    let here : IsSmall s.at.items = subst (λ (x : Seat). IsSmall x.at.items) (sym c.seat-item.is) (c.requires k s c.loop-seat-test.true) in
    let most : get_or s.at.items i 0 ≤ 2 ^ 20 = small_at s.at.items i here in
    record {
      greatest = all_more (λ (x : Seat). get_or x.at.items i 0 ≤ c.loop-seat.found) (λ (x : Seat). get_or x.at.items i 0 ≤ c.max-found.result) (λ x h. omega (arith, m, h))
          c.args.seats.now k s c.loop-seat-test.true c.seat-item.is c.loop-seat.invariant.greatest (omega (arith, m, v));
      small = omega (arith, m, small, v, most);
    }

pub returns-clause-greatest : goal.returns-clause-greatest
returns-clause-greatest c =
    let end = c.loop-seat.auto.seat-index-end in
    let past = c.loop-seat-test.false in
    all_taken (λ (x : Seat). get_or x.at.items c.args.place 0 ≤ c.loop-seat.found) c.args.seats.now c.loop-seat.seat-index (omega (arith, end, past)) c.loop-seat.invariant.greatest
