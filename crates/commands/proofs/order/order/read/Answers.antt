use Rattle.std.proofs.Common.{◌+◌, drop, arith, subst, sym}
use Rattle.std.proofs.lemmas.Option.{MatchOption-at_none, MatchOption-at_some}
use Rattle.commands.specs.Order.Order.{IsOrder, IsNoOrder}
use Rattle.commands.proofs.Turns.{next_byte, last_byte, at_white, at_digit, at_end, bad_byte, too_many}
use Rattle.commands.proofs.order.order.read.Goals.{then-is_white+in_ok-end_number, else-is_white+in_ok-ok_or}
use Rattle.commands.proofs.order.order.read.Goals as goal

pub returns-in_err-end_number-clause-refused : goal.returns-in_err-end_number-clause-refused
returns-in_err-end_number-clause-refused c is =
    let bytes = c.as_bytes-byte-items.result.now in
    let refused = c.in_err-end_number.ensures.refused (grind (arith, is, c.from_residual.ensures)) in
    subst IsNoOrder c.as_bytes-byte-items.ensures.value (too_many bytes c.loop-byte.workers.items c.loop-byte.number (drop c.loop-byte.byte-index bytes) c.loop-byte.invariant refused.0 refused.1)

pub returns-in_err-end_number-2-clause-refused : goal.returns-in_err-end_number-2-clause-refused
returns-in_err-end_number-2-clause-refused c is =
    let bytes = c.as_bytes-byte-items.result.now in
    let refused = c.in_err-end_number-2.ensures.refused (grind (arith, is, c.from_residual-in_err-end_number-2.ensures)) in
    subst IsNoOrder c.as_bytes-byte-items.ensures.value (too_many bytes c.loop-byte.workers.items c.loop-byte.number (drop c.loop-byte.byte-index bytes) c.loop-byte.invariant refused.0 refused.1)

pub returns-in_err-ok_or-clause-refused : goal.returns-in_err-ok_or-clause-refused
returns-in_err-ok_or-clause-refused c is =
    let bytes = c.as_bytes-byte-items.result.now in
    let next = next_byte bytes c.loop-byte.workers.items c.loop-byte.number c.loop-byte.byte-index c.loop-byte-test.true c.loop-byte.invariant in
    subst IsNoOrder c.as_bytes-byte-items.ensures.value (bad_byte bytes c.loop-byte.workers.items c.loop-byte.number _ (drop (c.loop-byte.byte-index + 1) bytes) next (sym c.if-is_white.ensures) (MatchOption-at_none _ _ c.in_err-ok_or.ensures.ok_part c.with_byte.ensures))

pub loop-byte-preserved : goal.loop-byte-preserved
loop-byte-preserved c =
    let bytes = c.as_bytes-byte-items.result.now in
    let next = next_byte bytes c.loop-byte.workers.items c.loop-byte.number c.loop-byte.byte-index c.loop-byte-test.true c.loop-byte.invariant in
    elim c.if-is_white.branch [ then-is_white+in_ok-end_number w ↦ rw (w.workers-is, w.number-is) (at_white bytes c.loop-byte.workers.items c.loop-byte.number _ (drop (c.loop-byte.byte-index + 1) bytes) _ next (sym w.if-is_white.ensures) w.in_ok-end_number.ensures.ended w.in_ok-end_number.ensures.few) | else-is_white+in_ok-ok_or w ↦ rw (w.workers-is, w.number-is) (at_digit bytes c.loop-byte.workers.items c.loop-byte.number _ (drop (c.loop-byte.byte-index + 1) bytes) w.in_ok-ok_or.field-0 next (MatchOption-at_some _ _ w.in_ok-ok_or.field-0 w.in_ok-ok_or.ensures.ok_part w.with_byte.ensures)) ]

pub returns-clause-order : goal.returns-clause-order
returns-clause-order c =
    let bytes = c.as_bytes-byte-items.result.now in
    let last = last_byte bytes c.loop-byte.workers.items c.loop-byte.number c.loop-byte.byte-index c.loop-byte-test.false c.loop-byte.invariant in
    subst (λ text. IsOrder text c.end_number-2.new.workers.items) c.as_bytes-byte-items.ensures.value (at_end bytes c.loop-byte.workers.items c.loop-byte.number _ last c.in_ok-end_number-2.ensures.ended c.in_ok-end_number-2.ensures.few)
