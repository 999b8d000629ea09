use Rattle.std.proofs.Common.{◌≡◌, ◌∷◌, ◌-◌, ◌<◌, ℕ, ℤ, List, length, take, drop, ap, sym, subst, ◌∙◌, pos, arith, rules, w64, to_z, of_z, SFits, slice_index_or}
use Rattle.std.specs.Prelude.{◌+ℤ◌}
use Rattle.std.proofs.lemmas.Int.{to_z-of_z}
use Rattle.interpreter.specs.Buffers.Spots.{IsSpot}
use Rattle.interpreter.specs.Runs.{numbers_at}
use Rattle.interpreter.specs.declared.buffers.spot.Spot.{Spot}
use Rattle.interpreter.proofs.FoundRuns.{if_some}
use Rattle.interpreter.proofs.Spots.{by_first, numbers_risen}
use Rattle.interpreter.proofs.runs.risen_spot.Goals as goal

pub returns-clause-lies : goal.returns-clause-lies
returns-clause-lies c =
    let memory = c.args.memory.now in
    let buffer = c.args.buffer in
    let first = c.args.first.now in
    let second = c.args.second.now in
    let x : ℤ = slice_index_or first 0 (pos 0) in
    let fits : SFits w64 x = search rules in
    let others = take (length first - 1) (drop 1 first) in
    let is : first ≡ x ∷ others = by_first first (pos 0) (omega (arith, c.in-len1-up.len_at_least)) in
    let next : second ≡ (x +ℤ pos 1) ∷ others = c.if-not-is_next.ensures ∙ ap (λ (z : ℤ). (z +ℤ pos 1) ∷ others) (to_z-of_z w64 x fits) in
    let P : Spot → Type 0 = λ s. (k : ℕ) → k < c.args.count → IsSpot memory buffer ((to_z w64 (of_z w64 x) +ℤ pos k) ∷ others) s k in
    let Q : Spot → Type 0 = λ s. (k : ℕ) → k < c.args.count → IsSpot memory buffer (numbers_at first second k) s k in
    if_some c.spot.result P Q
    (λ s h k lt. subst (λ (p : List ℤ). IsSpot memory buffer p s k) (sym (numbers_risen first second others x k is next))
    (subst (λ (z : ℤ). IsSpot memory buffer ((z +ℤ pos k) ∷ others) s k) (to_z-of_z w64 x fits) (h k lt)))
    c.spot.ensures.lies
