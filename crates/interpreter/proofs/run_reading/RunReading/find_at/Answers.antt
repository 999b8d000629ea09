use Rattle.std.proofs.Common.{◌≡◌, ◌∷◌, [], ℤ, List, pos, ◌∙◌, arith, rules, w64, to_z, of_z, SFits}
use Rattle.std.proofs.lemmas.Int.{to_z-of_z}
use Rattle.numeric.specs.declared.ty.Ty.TheVariants.{U8}
use Rattle.interpreter.specs.declared.evaluation.lanes.Lanes.{Lanes}
use Rattle.interpreter.specs.declared.evaluation.lanes.Lanes.TheVariants.{Broadcast}
use Rattle.interpreter.specs.Buffers.Blocks.{memory_of}
use Rattle.interpreter.specs.Evaluation.Lanes.{lanes_at}
use Rattle.interpreter.specs.RunReadings.{source_at}
use Rattle.interpreter.proofs.Points.{is_found, two_at, three_at, four_at}
use Rattle.interpreter.proofs.run_reading.RunReading.find_at.Goals as goal

pub returns-in_ok-second-in-len2 : goal.returns-in_ok-second-in-len2
returns-in_ok-second-in-len2 c =
    let r = c.args.self.now in
    let indices = c.args.indices.now in
    let d : Lanes = Broadcast U8 (record { value = pos 0 }) in
    let x : ℤ = c.in_ok-first-in-len2.first in
    let x_fits : SFits w64 x = search rules in
    let y : ℤ = c.in_ok-second-in-len2.second in
    let y_fits : SFits w64 y = search rules in
    let given : List ℤ = to_z w64 (of_z w64 x) ∷ to_z w64 (of_z w64 y) ∷ [] in
    let same : given ≡ x ∷ y ∷ [] = (λ i. to_z-of_z w64 x x_fits i ∷ to_z-of_z w64 y y_fits i ∷ []) in
    let point = two_at c.args.count c.args.turn indices d c.args.registers.now c.registers_behind-seconds.result.now x y
    (omega (arith, c.in-len2.len_at_least)) (omega (arith, c.in-len2.len_below))
    c.registers_behind-seconds.ensures c.in_ok-first-in-len2.ensures c.in_ok-second-in-len2.ensures in
    is_found (source_at r (memory_of r.memory.now) c.args.source) c.find-in-len2.result given
    (lanes_at c.args.count indices c.args.registers.now c.args.turn) c.find-in-len2.ensures (same ∙ point)

pub returns-in_ok-third-in-len3 : goal.returns-in_ok-third-in-len3
returns-in_ok-third-in-len3 c =
    let r = c.args.self.now in
    let indices = c.args.indices.now in
    let d : Lanes = Broadcast U8 (record { value = pos 0 }) in
    let x : ℤ = c.in_ok-first-in-len3.first in
    let x_fits : SFits w64 x = search rules in
    let y : ℤ = c.in_ok-second-in-len3.second in
    let y_fits : SFits w64 y = search rules in
    let z : ℤ = c.in_ok-third-in-len3.third in
    let z_fits : SFits w64 z = search rules in
    let given : List ℤ = to_z w64 (of_z w64 x) ∷ to_z w64 (of_z w64 y) ∷ to_z w64 (of_z w64 z) ∷ [] in
    let same : given ≡ x ∷ y ∷ z ∷ [] = (λ i. to_z-of_z w64 x x_fits i ∷ to_z-of_z w64 y y_fits i ∷ to_z-of_z w64 z z_fits i ∷ []) in
    let point = three_at c.args.count c.args.turn indices d c.args.registers.now c.registers_behind-seconds.result.now c.registers_behind-thirds.result.now x y z
    (omega (arith, c.in-len3.len_at_least)) (omega (arith, c.in-len3.len_below))
    c.registers_behind-seconds.ensures c.registers_behind-thirds.ensures
    c.in_ok-first-in-len3.ensures c.in_ok-second-in-len3.ensures c.in_ok-third-in-len3.ensures in
    is_found (source_at r (memory_of r.memory.now) c.args.source) c.find-in-len3.result given
    (lanes_at c.args.count indices c.args.registers.now c.args.turn) c.find-in-len3.ensures (same ∙ point)

pub returns-in_ok-fourth-in-len4 : goal.returns-in_ok-fourth-in-len4
returns-in_ok-fourth-in-len4 c =
    let r = c.args.self.now in
    let indices = c.args.indices.now in
    let d : Lanes = Broadcast U8 (record { value = pos 0 }) in
    let x : ℤ = c.in_ok-first-in-len4.first in
    let x_fits : SFits w64 x = search rules in
    let y : ℤ = c.in_ok-second-in-len4.second in
    let y_fits : SFits w64 y = search rules in
    let z : ℤ = c.in_ok-third-in-len4.third in
    let z_fits : SFits w64 z = search rules in
    let w : ℤ = c.in_ok-fourth-in-len4.fourth in
    let w_fits : SFits w64 w = search rules in
    let given : List ℤ = to_z w64 (of_z w64 x) ∷ to_z w64 (of_z w64 y) ∷ to_z w64 (of_z w64 z) ∷ to_z w64 (of_z w64 w) ∷ [] in
    let same : given ≡ x ∷ y ∷ z ∷ w ∷ [] = (λ i. to_z-of_z w64 x x_fits i ∷ to_z-of_z w64 y y_fits i ∷ to_z-of_z w64 z z_fits i ∷ to_z-of_z w64 w w_fits i ∷ []) in
    let point = four_at c.args.count c.args.turn indices d c.args.registers.now c.registers_behind-seconds.result.now c.registers_behind-thirds.result.now c.registers_behind-fourths.result.now x y z w
    (omega (arith, c.in-len4.len_at_least)) (omega (arith, c.in-len4.len_below))
    c.registers_behind-seconds.ensures c.registers_behind-thirds.ensures c.registers_behind-fourths.ensures
    c.in_ok-first-in-len4.ensures c.in_ok-second-in-len4.ensures c.in_ok-third-in-len4.ensures c.in_ok-fourth-in-len4.ensures in
    is_found (source_at r (memory_of r.memory.now) c.args.source) c.find-in-len4.result given
    (lanes_at c.args.count indices c.args.registers.now c.args.turn) c.find-in-len4.ensures (same ∙ point)
