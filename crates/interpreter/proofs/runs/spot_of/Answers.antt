use Rattle.std.proofs.Common.{◌≡◌, ℕ, ◌<◌, ℤ, List, take, ◌∙◌, ap, subst}
use Rattle.interpreter.specs.Buffers.Spots.{IsSpot}
use Rattle.interpreter.specs.Runs.{numbers_at}
use Rattle.interpreter.specs.declared.buffers.spot.Spot.{Spot}
use Rattle.interpreter.proofs.FoundRuns.{if_some}
use Rattle.interpreter.proofs.FirstNumbers.{numbers_taken}
use Rattle.interpreter.proofs.runs.spot_of.Goals as goal

pub returns-clause-lies : goal.returns-clause-lies
returns-clause-lies c =
    let state = c.args.state.now in
    let memory = state.memory in
    let size = c.args.size in
    let xs = c.first_numbers.result.now in
    let ys = c.first_numbers-2.result.now in
    let first : xs ≡ take size state.numbers.items = c.first_numbers.ensures ∙ ap (take size) c.as_slice.ensures in
    let second : ys ≡ take size state.point.items = c.first_numbers-2.ensures ∙ ap (take size) c.as_slice-2.ensures in
    let P : Spot → Type 0 = λ s. (k : ℕ) → k < c.args.count → IsSpot memory c.args.buffer (numbers_at xs ys k) s k in
    let Q : Spot → Type 0 = λ s. (k : ℕ) → k < c.args.count → IsSpot memory c.args.buffer (take size (numbers_at state.numbers.items state.point.items k)) s k in
    if_some c.risen_spot.result P Q
    (λ s h k lt. subst (λ (p : List ℤ). IsSpot memory c.args.buffer p s k) ((λ i. numbers_at (first i) (second i) k) ∙ numbers_taken size state.numbers.items state.point.items k) (h k lt))
    c.risen_spot.ensures.lies
