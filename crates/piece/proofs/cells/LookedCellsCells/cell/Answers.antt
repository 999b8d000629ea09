use Rattle.std.proofs.Common.{ℕ, pos, refl, ap, sym, ◌∙◌, rules}
use Rattle.std.proofs.lemmas.Int.{to_z-of_z}
use Rattle.tree.specs.Meaning.{typed}
use Rattle.meaning.specs.Algorithm.{Algorithm}
use Rattle.headline.specs.Work.{type_named}
use Rattle.checked_plan.specs.View.{algorithm_checked, plan_checked}
use Rattle.checked_plan.specs.declared.checked.Checked.{Checked}
use Rattle.checked_plan.specs.Output.Cells.{number_in}
use Rattle.piece.specs.Found.{first_found}
use Rattle.piece.specs.Looked.{numbers_of_piece}
use Rattle.piece.proofs.Lookups.{known, unknown}
use Rattle.piece.proofs.cells.LookedCellsCells.cell.Goals as goal
use mir.Syntax.{w64}
use mir.Val.{SFits}

pub returns-in-Some : goal.returns-in-Some
returns-in-Some c =
    let s = c.args.self.now in
    let x = s.cells.now.checked.now in
    let name = c.args.function.now in
    let at = c.args.at.now in
    let n = c.in-Some.number in
    let ty = c.type_named-ty.ensures ∙ ap (λ (a : Algorithm). type_named a name) (c.algo.ensures ∙ ap (λ (y : Checked). algorithm_checked y) c.checked.ensures) in
    let number = ap (λ (k : ℕ). number_in (plan_checked x) k at) (sym c.place.ensures) ∙ sym c.in-Some.ensures in
    let fits : SFits w64 c.value_of.result = search rules in
    let value = to_z-of_z w64 c.value_of.result fits ∙ c.value_of.ensures in
    (λ i. typed (ty i) (value i))
    ∙ known x name at s.piece s.looked.items c.looks_are_by_number.ensures n (first_found n (numbers_of_piece (plan_checked x) s.piece) s.looked.items) number refl

pub returns-in-None : goal.returns-in-None
returns-in-None c =
    let s = c.args.self.now in
    let x = s.cells.now.checked.now in
    let name = c.args.function.now in
    let at = c.args.at.now in
    let ty = c.type_named-ty.ensures ∙ ap (λ (a : Algorithm). type_named a name) (c.algo.ensures ∙ ap (λ (y : Checked). algorithm_checked y) c.checked.ensures) in
    let none = ap (λ (k : ℕ). number_in (plan_checked x) k at) (sym c.place.ensures) ∙ sym c.in-None.ensures in
    (λ i. typed (ty i) (pos 0)) ∙ unknown x name at s.piece s.looked.items none
