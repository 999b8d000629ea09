use Rattle.std.proofs.Common.{◌≡◌, ◌<◌, ℕ, ℤ, subst, arith, length, w64, to_z, of_z}
use Rattle.std.proofs.lemmas.List.{length-set}
use Rattle.plan.specs.Rooms.{Straight}
use Rattle.interpreter.specs.Evaluation.Lanes.{number_at}
use Rattle.interpreter.specs.PlaceNumbers.{place_at, IsOneMore}
use Rattle.interpreter.proofs.PlaceNumbers.{places_next}
use Rattle.interpreter.proofs.buffers.raster.straight_column.Goals as goal

pub loop-turn-preserved : goal.loop-turn-preserved
loop-turn-preserved c =
    let l = c.loop-turn in
    let o : ℤ = to_z w64 (of_z w64 c.args.origin) in
    let P : ℕ → ℕ → Type 0 = λ k n. IsOneMore (Straight o c.args.width) (number_at c.args.numbers.now k) (place_at c.args.places.now k) n in
    let lt : l.turn < length l.places = omega arith in
    let same : place_at l.places l.turn ≡ place_at c.args.places.now l.turn = l.invariant.later l.turn (omega arith) in
    let is : P l.turn c.straight_more.result = subst (λ (n : ℕ). IsOneMore (Straight o c.args.width) (number_at c.args.numbers.now l.turn) n c.straight_more.result) same c.straight_more.ensures in
    places_next P l.turn c.args.places.now l.places c.straight_more.result lt l.invariant is (length-set _ _ _)
