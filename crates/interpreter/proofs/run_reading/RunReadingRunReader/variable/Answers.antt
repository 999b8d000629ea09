use Rattle.std.proofs.Common.{◌≡◌, ◌<◌, ℕ, ℤ, List, map, length, ap, sym, ◌∙◌, rules, w64, to_z, of_z, SFits}
use Rattle.std.specs.Prelude.{string_bytes}
use Rattle.std.proofs.lemmas.Int.{to_z-of_z}
use Rattle.numeric.specs.declared.ty.Ty.TheVariants.{I32}
use Rattle.tree.specs.Meaning.{typed}
use Rattle.meaning.specs.Names.{bound}
use Rattle.interpreter.specs.declared.evaluation.lanes.Lanes.{Lanes}
use Rattle.interpreter.specs.Evaluation.Lanes.{lane}
use Rattle.interpreter.specs.Runs.{numbers_at}
use Rattle.interpreter.proofs.FoundRuns.{if_some}
use Rattle.interpreter.proofs.Moving.{moved}
use Rattle.interpreter.proofs.run_reading.RunReadingRunReader.variable.Goals as goal

pub returns-clause-lanes : goal.returns-clause-lanes
returns-clause-lanes c =
    let r = c.args.self.now in
    let name = c.args.name.now in
    let names : List (List ℕ) = map (λ x. string_bytes x.variable) r.coordinates.now in
    let first = c.in_ok-first.first in
    let second = c.in_ok-first.second in
    let a : ℤ = to_z w64 (of_z w64 first) in
    let b : ℤ = to_z w64 (of_z w64 second) in
    let first_fits : SFits w64 first = search rules in
    let second_fits : SFits w64 second = search rules in
    let out : List ℕ = c.lanes_of.new.out in
    let P : Lanes → Type 0 = λ x. (k : ℕ) → k < length out → typed I32 (moved a b k) ≡ lane x out k in
    let Q : Lanes → Type 0 = λ x. (k : ℕ) → k < length out → typed I32 (bound names (numbers_at r.first.now r.second.now k) name) ≡ lane x out k in
    if_some c.lanes_of.result P Q
    (λ x h k lt. ap (typed I32) (c.in_ok-first.ensures k ∙ (λ i. moved (sym (to_z-of_z w64 first first_fits) i) (sym (to_z-of_z w64 second second_fits) i) k)) ∙ h k lt)
    c.lanes_of.ensures.lanes
