use Rattle.std.proofs.Common.{arith, ◌≡◌, ◌∙◌, ap, sym, ◌++◌, ◌+◌, ◌-◌, ◌<◌, ◌∷◌, [], append_assoc, List, ℕ, suc, length, take}
use Rattle.std.proofs.lemmas.Grind.{take-set_at}
use Rattle.std.proofs.lemmas.List.{length-set}
use Rattle.std.specs.List.{range_with_len}
use Rattle.shares.proofs.Rows.{range_more}
use Rattle.shares.proofs.walked.number_cells.Goals as goal

pub loop-place-preserved : goal.loop-place-preserved
loop-place-preserved c =
    let cells = c.loop-place.cells in let k = c.loop-place.place in let begun = c.args.begun in let first = c.args.first in
    let inv = c.loop-place.invariant in let before = take begun c.args.cells.now in
    let within : k < length cells = omega (arith, inv.1, c.loop-place-test.true) in
    let next : k + 1 - begun ≡ suc (k - begun) = omega (arith, inv.0) in
    let more : range_with_len first (k - begun) ++ (first + (k - begun)) ∷ [] ≡ range_with_len first (k + 1 - begun) =
    sym (ap (λ (n : ℕ). range_with_len first n) next ∙ range_more first (k - begun)) in (
      omega (arith, inv.0),
      length-set cells k (first + (k - begun)) ∙ inv.1,
      take-set_at cells k (k + 1) (first + (k - begun)) (omega arith) within ∙ ap (λ (xs : List ℕ). xs ++ (first + (k - begun)) ∷ []) inv.2
          ∙ append_assoc before (range_with_len first (k - begun)) ((first + (k - begun)) ∷ []) ∙ ap (λ (xs : List ℕ). before ++ xs) more,
    )
