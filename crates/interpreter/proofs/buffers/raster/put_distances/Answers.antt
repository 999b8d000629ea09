use Rattle.std.proofs.Common.{◌<◌, ◌≤◌, ◌^◌, ℕ, ℤ, arith, length, pos, w64, to_z, of_z, bit_or}
use Rattle.std.specs.Prelude.{◌+ℤ◌, ◌≤ℤ◌}
use Rattle.std.proofs.lemmas.List.{length-set}
use Rattle.std.proofs.lemmas.Nat.{le_or_l, le_or_r}
use Rattle.plan.specs.Rooms.{Straight}
use Rattle.interpreter.specs.Evaluation.Lanes.{number_at}
use Rattle.interpreter.specs.PlaceNumbers.{IsOneMore}
use Rattle.interpreter.proofs.PlaceNumbers.{places_next, PlacesBelow}
use Rattle.interpreter.proofs.buffers.raster.put_distances.Goals as goal

pub loop-turn-preserved : goal.loop-turn-preserved
loop-turn-preserved c =
    let l = c.loop-turn in
    let o : ℤ = to_z w64 (of_z w64 c.args.origin) in
    let n : ℕ = c.distance-one.result in
    let P : ℕ → ℕ → ℕ → Type 0 = λ b k m. (m ≤ b) × ((w : ℕ) → (o +ℤ pos w) ≤ℤ pos (2 ^ 63) → m < w → IsOneMore (Straight o w) (number_at c.args.numbers.now k) 0 m) in
    let lt : l.turn < length l.places = omega arith in
    let left = le_or_l l.bits n in
    let now : PlacesBelow (P (bit_or l.bits n)) l.turn c.args.places.now l.places =
    record { done = λ k less. (let h = l.invariant.done k less in let below = h.0 in (omega (arith, below, left), h.1)); later = l.invariant.later; long = l.invariant.long } in
    places_next (P (bit_or l.bits n)) l.turn c.args.places.now l.places n lt now (le_or_r l.bits n, c.distance-one.ensures) (length-set _ _ _)
