use Rattle.std.proofs.Common.{◌+◌, ℕ, List, Option, sym, ap, subst, refl, arith, length, get_or, ◌∙◌}
use Rattle.std.proofs.lemmas.Bool.{false≢true}
use Rattle.orders.specs.Work.{OwnIsParted}
use Rattle.orders.specs.Lists.{own_lists}
use Rattle.orders.specs.Claimed.{IsClaimed}
use Rattle.orders.proofs.Claiming.{claimed_more, claimed_next, claimed_clash}
use Rattle.orders.proofs.owners.claim_piece.Goals as goal

pub loop-place-preserved : goal.loop-place-preserved
loop-place-preserved c =
    let own = own_lists c.args.pieces.now in
    let place = c.loop-place.place in
    let same = c.own_of-own.ensures in
    let long = ap length same in
    let claimed = claimed_more own c.loop-place.owners c.args.piece place (c.cell.result) c.loop-place.invariant (omega (arith, c.loop-place-test.true, c.len-place-end.ensures.count)) (c.cell.ensures ∙ ap (λ xs. get_or xs place 0) same) (c.if-not-claim_cell.ensures.free.0 refl) in
    let P : List (Option ℕ) → Type 0 = λ owners. IsClaimed own owners c.args.piece (place + 1) in
    subst P (sym c.if-not-claim_cell.ensures.claimed) claimed

pub returns-clause-claimed : goal.returns-clause-claimed
returns-clause-claimed c _ =
    claimed_next (own_lists c.args.pieces.now) c.loop-place.owners c.args.piece c.loop-place.place c.loop-place.invariant
    (let long = ap length c.own_of-own.ensures in omega (arith, c.loop-place-test.false, c.loop-place.auto.place-end, c.len-place-end.ensures.count))

pub returns-then-not-claim_cell-clause-fault : goal.returns-then-not-claim_cell-clause-fault
returns-then-not-claim_cell-clause-fault c _ parted =
    let own = own_lists c.args.pieces.now in
    let place = c.loop-place.place in
    let same = c.own_of-own.ensures in
    let long = ap length same in
    let P : ℕ → Type 0 = λ cells. OwnIsParted (c.args.piece + 1) cells own in
    claimed_clash own c.loop-place.owners c.args.piece place (c.cell.result) c.loop-place.invariant (omega (arith, c.loop-place-test.true, c.len-place-end.ensures.count)) (c.cell.ensures ∙ ap (λ xs. get_or xs place 0) same)
    (λ free. false≢true (c.if-not-claim_cell.ensures.free.1 free)) (subst P (sym c.loop-place.auto.owners) parted)
