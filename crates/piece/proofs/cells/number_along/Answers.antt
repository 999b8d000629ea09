use Rattle.std.proofs.Common.{◌≡◌, ◌∷◌, [], ℤ, List, get_or, pos, refl, ◌∙◌, arith, rules, w64, to_z, of_z, SFits}
use Rattle.std.specs.Prelude.{◌+ℤ◌}
use Rattle.std.proofs.lemmas.Int.{to_z-of_z}
use Rattle.checked_plan.specs.Output.Cells.{number_in}
use Rattle.checked_plan.specs.View.{plan_checked}
use Rattle.interpreter.proofs.Points.{is_found}
use Rattle.interpreter.specs.CellRows.{along}
use Rattle.piece.proofs.Along.{three_along, two_along}
use Rattle.piece.proofs.cells.number_along.Goals as goal

pub returns-in_ok-further-in-len2 : goal.returns-in_ok-further-in-len2
returns-in_ok-further-in-len2 c =
    let at = c.args.at.now in
    let d : ℤ = pos 0 in
    let x : ℤ = c.in_ok-further-in-len2.field-0 in
    let x_fits : SFits w64 x = search rules in
    let from = c.in-len2.len_at_least in
    let y : ℤ = get_or at 1 d in
    let y_fits : SFits w64 y = search rules in
    let z_fits : SFits w64 (get_or at 0 d) = search rules in
    let given : List ℤ = to_z w64 (of_z w64 x) ∷ to_z w64 (of_z w64 y) ∷ [] in
    let same : given ≡ x ∷ y ∷ [] = (λ i. to_z-of_z w64 x x_fits i ∷ to_z-of_z w64 y y_fits i ∷ []) in
    let first : x ≡ get_or at 0 d +ℤ pos c.args.more = c.in_ok-further-in-len2.ensures ∙ (λ i. to_z-of_z w64 (get_or at 0 d) z_fits i +ℤ pos c.args.more) in
    let point = two_along c.args.more at d x y (omega (arith, from)) (omega (arith, c.in-len2.len_below)) first refl in
    is_found (number_in (plan_checked c.args.cells.now.checked.now) c.args.group) c.number-in-len2.result given (along at c.args.more) c.number-in-len2.ensures (same ∙ point)

pub returns-in_ok-further-in-len3 : goal.returns-in_ok-further-in-len3
returns-in_ok-further-in-len3 c =
    let at = c.args.at.now in
    let d : ℤ = pos 0 in
    let x : ℤ = c.in_ok-further-in-len3.field-0 in
    let x_fits : SFits w64 x = search rules in
    let from = c.in-len3.len_at_least in
    let y : ℤ = get_or at 1 d in
    let y_fits : SFits w64 y = search rules in
    let z : ℤ = get_or at 2 d in
    let z_fits : SFits w64 z = search rules in
    let old_fits : SFits w64 (get_or at 0 d) = search rules in
    let given : List ℤ = to_z w64 (of_z w64 x) ∷ to_z w64 (of_z w64 y) ∷ to_z w64 (of_z w64 z) ∷ [] in
    let same : given ≡ x ∷ y ∷ z ∷ [] = (λ i. to_z-of_z w64 x x_fits i ∷ to_z-of_z w64 y y_fits i ∷ to_z-of_z w64 z z_fits i ∷ []) in
    let first : x ≡ get_or at 0 d +ℤ pos c.args.more = c.in_ok-further-in-len3.ensures ∙ (λ i. to_z-of_z w64 (get_or at 0 d) old_fits i +ℤ pos c.args.more) in
    let point = three_along c.args.more at d x y z (omega (arith, from)) (omega (arith, c.in-len3.len_below)) first refl refl in
    is_found (number_in (plan_checked c.args.cells.now.checked.now) c.args.group) c.number-in-len3.result given (along at c.args.more) c.number-in-len3.ensures (same ∙ point)
