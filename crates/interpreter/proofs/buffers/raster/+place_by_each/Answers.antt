use Rattle.std.proofs.Common.{ℤ, ap, sym, ◌∙◌, arith, slice_index_or, rules, w64, pos}
use mir.Val.{SFits}
use Rattle.std.proofs.lemmas.Int.{to_z-of_z}
use Rattle.std.proofs.lemmas.Bool.{ltb-false, ltb-true}
use Rattle.plan.specs.Rooms.{seat}
use Rattle.interpreter.specs.Buffers.Rooms.{room_of}
use Rattle.interpreter.proofs.Places.{lies_first, place_short}
use Rattle.interpreter.proofs.buffers.raster.+place_by_each.Goals as goal

pub returns-in_ok-later-in-len1-up-len1-up : goal.returns-in_ok-later-in-len1-up-len1-up
returns-in_ok-later-in-len1-up-len1-up t c =
    let z : ℤ = slice_index_or c.args.at.now 0 (pos 0) in
    let fits : SFits w64 z = search rules in
    lies_first c.args.rooms.now c.args.at.now _ (pos 0) _ _ _ (omega (arith, ltb-false)) (omega (arith, ltb-false))
    (ap (seat (room_of _)) (sym (to_z-of_z w64 z fits)) ∙ sym c.seat.ensures ∙ c.in_ok-seat-in-len1-up-len1-up.was)
    c.count.ensures c.in_ok-later-in-len1-up-len1-up.ensures

pub overflow_add-result : goal.overflow_add-result
overflow_add-result t c =
    let lies = returns-in_ok-later-in-len1-up-len1-up t c in
    let counted = lies.counted in
    omega (arith, counted)

pub returns-in_default-2 : goal.returns-in_default-2
returns-in_default-2 t c = place_short c.args.rooms.now c.args.at.now (omega (arith, ltb-false)) (omega (arith, ltb-true))
