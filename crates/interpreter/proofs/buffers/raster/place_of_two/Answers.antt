use Rattle.std.proofs.Common.{◌∷◌, [], ◌+◌, ◌*◌, ℕ, ℤ, sym, ap, ◌∙◌, subst, arith, w64}
use Rattle.std.proofs.lemmas.Int.{to_z-of_z}
use Rattle.plan.specs.Rooms.{seat}
use Rattle.interpreter.specs.Buffers.Raster.{LiesAt}
use Rattle.interpreter.specs.Buffers.Rooms.{room_of}
use Rattle.interpreter.proofs.Places.{lies_more}
use Rattle.interpreter.proofs.buffers.raster.place_of_two.Goals as goal

pub returns : goal.returns
returns c =
    let first = room_of c.args.first.now in
    let second = room_of c.args.second.now in
    let x : ℤ = c.args.x in
    let y : ℤ = c.args.y in
    let k = c.in_ok-seat.seat in
    let n = c.in_ok-later.later in
    let later : LiesAt (second ∷ []) (y ∷ []) n = subst (λ (z : ℤ). LiesAt (second ∷ []) (z ∷ []) n) (to_z-of_z w64 y c.ranges.y) c.in_ok-later.ensures in
    subst (λ (count : ℕ). LiesAt (first ∷ second ∷ []) (x ∷ y ∷ []) (n * count + k)) (sym c.count.ensures)
    (lies_more first (second ∷ []) x (y ∷ []) k n (ap (seat first) (sym (to_z-of_z w64 x c.ranges.x)) ∙ sym c.seat.ensures ∙ c.in_ok-seat.was) later)

pub overflow_add-result : goal.overflow_add-result
overflow_add-result c =
    let lies = returns c in
    let counted = lies.counted in
    omega (arith, counted)
