use Rattle.std.proofs.Common.{◌<◌, ℕ, ℤ, arith, length, w64, to_z, of_z}
use Rattle.std.proofs.lemmas.List.{length-set}
use Rattle.plan.specs.Rooms.{Straight}
use Rattle.interpreter.specs.Evaluation.Lanes.{number_at}
use Rattle.interpreter.specs.PlaceNumbers.{IsOneMore}
use Rattle.interpreter.proofs.PlaceNumbers.{places_next}
use Rattle.interpreter.proofs.buffers.raster.first_column.Goals as goal

pub loop-turn-preserved : goal.loop-turn-preserved
loop-turn-preserved c =
    let l = c.loop-turn in
    let o : ℤ = to_z w64 (of_z w64 c.args.origin) in
    let P : ℕ → ℕ → Type 0 = λ k n. IsOneMore (Straight o c.args.width) (number_at c.args.numbers.now k) 0 n in
    let lt : l.turn < length l.places = omega arith in
    places_next P l.turn c.args.places.now l.places c.straight_more.result lt l.invariant c.straight_more.ensures (length-set _ _ _)
