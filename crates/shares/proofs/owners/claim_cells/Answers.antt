use Rattle.std.proofs.Common.{◌+◌, ℕ, List, Option, sym, ap, subst, refl, arith, length, get_or, ◌∙◌}
use Rattle.std.proofs.lemmas.Bool.{false≢true}
use Rattle.orders.specs.Work.{OwnIsParted}
use Rattle.orders.specs.Claimed.{IsClaimed}
use Rattle.orders.proofs.Claiming.{claimed_more, claimed_next, claimed_clash}
use Rattle.shares.proofs.owners.claim_cells.Goals as goal

pub loop-place-init : goal.loop-place-init
loop-place-init c own e before = before

pub loop-place-preserved : goal.loop-place-preserved
loop-place-preserved c own e before =
    let same = sym e in let long = ap length same in
    let place = c.loop-place.place in
    let claimed = claimed_more own c.loop-place.owners c.args.piece place c.cell.result (c.loop-place.invariant own e before) (omega (arith, c.loop-place-test.true, c.len-place-end.ensures.count)) (c.cell.ensures ∙ ap (λ xs. get_or xs place 0) same) (c.if-not-claim_cell.ensures.free.0 refl) in
    let P : List (Option ℕ) → Type 0 = λ owners. IsClaimed own owners c.args.piece (place + 1) in
    subst P (sym c.if-not-claim_cell.ensures.claimed) claimed

pub returns-clause-claimed : goal.returns-clause-claimed
returns-clause-claimed c own e before _ =
    claimed_next own c.loop-place.owners c.args.piece c.loop-place.place (c.loop-place.invariant own e before)
    (let long = ap length e in omega (arith, c.loop-place-test.false, c.loop-place.auto.place-end, c.len-place-end.ensures.count))

pub returns-then-not-claim_cell-clause-fault : goal.returns-then-not-claim_cell-clause-fault
returns-then-not-claim_cell-clause-fault c own e before _ parted =
    let place = c.loop-place.place in
    let same = sym e in let long = ap length same in
    let P : ℕ → Type 0 = λ cells. OwnIsParted (c.args.piece + 1) cells own in
    claimed_clash own c.loop-place.owners c.args.piece place c.cell.result (c.loop-place.invariant own e before) (omega (arith, c.loop-place-test.true, c.len-place-end.ensures.count)) (c.cell.ensures ∙ ap (λ xs. get_or xs place 0) same)
    (λ free. false≢true (c.if-not-claim_cell.ensures.free.1 free)) (subst P (sym c.loop-place.auto.owners) parted)
