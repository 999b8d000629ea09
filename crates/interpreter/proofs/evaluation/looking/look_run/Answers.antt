use Rattle.std.proofs.Common.{◌≡◌, ◌∷◌, [], ◌<◌, ℕ, ℤ, List, Some, length, get_or, pos, ap, sym, ◌∙◌, arith, rules, w64, to_z, of_z, SFits}
use Rattle.std.proofs.lemmas.Int.{to_z-of_z}
use Rattle.numeric.specs.declared.ty.Ty.TheVariants.{U8}
use Rattle.plan.specs.Semantics.Memory.{Memory}
use Rattle.tree.specs.declared.value.Value.{Value}
use Rattle.tree.specs.Meaning.{typed}
use Rattle.interpreter.specs.declared.evaluation.lanes.Lanes.{Lanes}
use Rattle.interpreter.specs.declared.evaluation.lanes.Lanes.TheVariants.{Broadcast}
use Rattle.interpreter.specs.Evaluation.Lanes.{found_as, lane_number}
use Rattle.interpreter.specs.Evaluation.Words.{word_at}
use Rattle.interpreter.proofs.FoundRuns.{if_some}
use Rattle.interpreter.proofs.InRegisters.{two_lanes, three_lanes}
use Rattle.interpreter.proofs.evaluation.looking.look_run.Goals as goal

pub returns-in-Some : goal.returns-in-Some
returns-in-Some g c =
    let r = c.args.reader.now in
    let name = c.args.name.now in
    let registers = c.args.registers.now in
    let d : Lanes = Broadcast U8 (record { value = pos 0 }) in
    let x : Lanes = get_or c.args.indices.now 0 d in
    let y : ℤ = c.in-Some.second in
    let fits : SFits w64 y = search rules in
    let out = c.look_along-in-Some.new.out in
    if_some c.look_along-in-Some.result
    (λ t. (m : Memory Value) → g.R.RunReader.agrees r m → (k : ℕ) → k < length out → found_as c.args.cast (g.R.RunReader.look r m name (lane_number x registers k ∷ to_z w64 (of_z w64 y) ∷ [])) ≡ Some (typed t (word_at t out k))) _
    (λ t h m ok k lt.
    ap (λ (p : List ℤ). found_as c.args.cast (g.R.RunReader.look r m name p)) (two_lanes (length out) k c.args.indices.now d registers y (omega (arith, c.in-len2.len_at_least)) (omega (arith, c.in-len2.len_below)) c.in-Some.ensures
    ∙ ap (λ (z : ℤ). lane_number x registers k ∷ z ∷ []) (sym (to_z-of_z w64 y fits))) ∙ h m ok k lt)
    c.look_along-in-Some.ensures

pub returns-in-Some-Some : goal.returns-in-Some-Some
returns-in-Some-Some g c =
    let r = c.args.reader.now in
    let name = c.args.name.now in
    let registers = c.args.registers.now in
    let d : Lanes = Broadcast U8 (record { value = pos 0 }) in
    let x : Lanes = get_or c.args.indices.now 0 d in
    let y : ℤ = c.in-Some-Some.second in
    let w : ℤ = c.in-Some-Some.third in
    let y_fits : SFits w64 y = search rules in
    let w_fits : SFits w64 w = search rules in
    let out = c.look_along-in-Some-Some.new.out in
    if_some c.look_along-in-Some-Some.result
    (λ t. (m : Memory Value) → g.R.RunReader.agrees r m → (k : ℕ) → k < length out →
    found_as c.args.cast (g.R.RunReader.look r m name (lane_number x registers k ∷ to_z w64 (of_z w64 y) ∷ to_z w64 (of_z w64 w) ∷ [])) ≡ Some (typed t (word_at t out k))) _
    (λ t h m ok k lt.
    ap (λ (p : List ℤ). found_as c.args.cast (g.R.RunReader.look r m name p))
    (three_lanes (length out) k c.args.indices.now d registers y w (omega (arith, c.in-len3.len_at_least)) (omega (arith, c.in-len3.len_below)) c.in-Some-Some.ensures c.in-Some-Some.ensures'
    ∙ (λ i. lane_number x registers k ∷ sym (to_z-of_z w64 y y_fits) i ∷ sym (to_z-of_z w64 w w_fits) i ∷ [])) ∙ h m ok k lt)
    c.look_along-in-Some-Some.ensures
