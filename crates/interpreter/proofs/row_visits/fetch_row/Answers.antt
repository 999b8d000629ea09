use Rattle.std.proofs.Common.{◌≡◌, ◌∷◌, ◌<◌, ℕ, ℤ, List, drop, pos, refl, sym, ap, subst, ◌∙◌, rules, w64, SFits, to_z, of_z}
use Rattle.std.specs.Prelude.{◌+ℤ◌}
use Rattle.std.proofs.lemmas.Int.{to_z-of_z}
use Rattle.interpreter.specs.Buffers.Spots.{IsSpot}
use Rattle.interpreter.specs.Pieces.{around}
use Rattle.interpreter.specs.RowVisits.{row_takes}
use Rattle.interpreter.specs.States.{progress_of}
use Rattle.interpreter.specs.Steps.{steps}
use Rattle.interpreter.proofs.RowVisits.{taken_all}
use Rattle.interpreter.proofs.row_visits.fetch_row.Goals as goal

pub returns-clause-run : goal.returns-clause-run
returns-clause-run g c =
    let x = c.args.piece.now in
    let cell = g.C.Cells.cell c.args.cells.now in
    let f = c.args.function.now in
    let b = c.args.buffer in
    let old = c.args.state.now in
    let new = c.fetch_cells.new.state in
    let others : List ℤ = drop 1 old.point.items in
    let low = c.args.numbers.low in
    let fits : SFits w64 low = search rules in
    let first : to_z w64 (of_z w64 low) ≡ low = to_z-of_z w64 low fits in
    let behind : c.others-others.result.now ≡ others = c.others-others.ensures ∙ ap (drop 1) c.as_slice.ensures in
    let here : (k : ℕ) → k < c.in-Some.count → IsSpot old.memory b ((low +ℤ pos k) ∷ others) c.in-Some-spot.spot k =
    λ k lt. subst (λ (q : List ℤ). IsSpot old.memory b q c.in-Some-spot.spot k) (λ i. (first i +ℤ pos k) ∷ behind i) (c.in-Some-spot.ensures.lies k lt) in
    let last : c.behind.result.low ≡ c.behind.result.high +ℤ pos 1 = c.behind.ensures.low ∙ c.in-Some.ensures.0 ∙ ap (λ (y : ℤ). y +ℤ pos 1) (sym c.behind.ensures.high) in
    c.fetch_cells.ensures.run x b here
    ∙ sym (taken_all x cell b f others c.behind.result.low c.behind.result.high (progress_of new)
    (steps (around x cell) (row_takes b f others c.behind.result.low c.behind.result.high) (progress_of new)) last refl)
