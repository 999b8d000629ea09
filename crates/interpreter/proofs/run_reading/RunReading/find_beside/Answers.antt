use Rattle.std.proofs.Common.{◌≡◌, ◌∷◌, [], ℤ, List, pos, ap, sym, ◌∙◌, arith, rules, w64, to_z, of_z, SFits, slice_index_or}
use Rattle.std.proofs.lemmas.Int.{to_z-of_z}
use Rattle.interpreter.specs.Buffers.Blocks.{memory_of}
use Rattle.interpreter.specs.RunReadings.{source_at}
use Rattle.interpreter.proofs.Points.{is_found, only_three}
use Rattle.interpreter.proofs.Windows.{only_two}
use Rattle.interpreter.proofs.run_reading.RunReading.find_beside.Goals as goal

pub returns-in-len2 : goal.returns-in-len2
returns-in-len2 c =
    let r = c.args.self.now in
    let others = c.args.others.now in
    let a : ℤ = c.args.first.value in
    let y : ℤ = slice_index_or others 0 (pos 0) in
    let z : ℤ = slice_index_or others 1 (pos 0) in
    let a_fits : SFits w64 a = search rules in
    let y_fits : SFits w64 y = search rules in
    let z_fits : SFits w64 z = search rules in
    let is : others ≡ y ∷ z ∷ [] = only_two others (pos 0) (omega (arith, c.in-len2.len_at_least)) (omega (arith, c.in-len2.len_below)) in
    let point : (to_z w64 (of_z w64 a) ∷ to_z w64 (of_z w64 y) ∷ to_z w64 (of_z w64 z) ∷ []) ≡ a ∷ others =
    (λ i. to_z-of_z w64 a a_fits i ∷ to_z-of_z w64 y y_fits i ∷ to_z-of_z w64 z z_fits i ∷ []) ∙ ap (λ (l : List ℤ). a ∷ l) (sym is) in
    is_found (source_at r (memory_of r.memory.now) c.args.source) c.find-in-len2.result (to_z w64 (of_z w64 a) ∷ to_z w64 (of_z w64 y) ∷ to_z w64 (of_z w64 z) ∷ []) (a ∷ others) c.find-in-len2.ensures point

pub returns-in-len3 : goal.returns-in-len3
returns-in-len3 c =
    let r = c.args.self.now in
    let others = c.args.others.now in
    let a : ℤ = c.args.first.value in
    let y : ℤ = slice_index_or others 0 (pos 0) in
    let z : ℤ = slice_index_or others 1 (pos 0) in
    let w : ℤ = slice_index_or others 2 (pos 0) in
    let a_fits : SFits w64 a = search rules in
    let y_fits : SFits w64 y = search rules in
    let z_fits : SFits w64 z = search rules in
    let w_fits : SFits w64 w = search rules in
    let is : others ≡ y ∷ z ∷ w ∷ [] = only_three others (pos 0) (omega (arith, c.in-len3.len_at_least)) (omega (arith, c.in-len3.len_below)) in
    let given : List ℤ = to_z w64 (of_z w64 a) ∷ to_z w64 (of_z w64 y) ∷ to_z w64 (of_z w64 z) ∷ to_z w64 (of_z w64 w) ∷ [] in
    let point : given ≡ a ∷ others =
    (λ i. to_z-of_z w64 a a_fits i ∷ to_z-of_z w64 y y_fits i ∷ to_z-of_z w64 z z_fits i ∷ to_z-of_z w64 w w_fits i ∷ []) ∙ ap (λ (l : List ℤ). a ∷ l) (sym is) in
    is_found (source_at r (memory_of r.memory.now) c.args.source) c.find-in-len3.result given (a ∷ others) c.find-in-len3.ensures point
