use Rattle.std.proofs.Common.{ℕ, ℤ, List, pos, refl, ap, sym, ◌∙◌, arith}
use Rattle.std.proofs.lemmas.Option.{slice_get-get_or}
use Rattle.tree.specs.Meaning.{typed}
use Rattle.meaning.specs.Algorithm.{Algorithm}
use Rattle.headline.specs.Work.{type_named}
use Rattle.checked_plan.specs.View.{algorithm_checked, plan_checked}
use Rattle.checked_plan.specs.declared.checked.Checked.{Checked}
use Rattle.checked_plan.specs.Output.Cells.{number_in}
use Rattle.interpreter.specs.CellRows.{along}
use Rattle.piece.specs.Found.{first_found, number_or_zero}
use Rattle.piece.specs.Looked.{numbers_of_piece}
use Rattle.piece.proofs.Lookups.{known}
use Rattle.piece.proofs.cells.LookedCellsCells.row.Goals as goal

pub returns : goal.returns
returns c =
    let s = c.args.self.now in
    let x = s.cells.now.checked.now in
    let p = plan_checked x in
    let name = c.args.function.now in
    let at = c.args.at.now in
    let values : List ℤ = c.in_ok-numbers.numbers.now in
    let found = λ (n : ℕ). first_found n (numbers_of_piece p s.piece) s.looked.items in
    let ty = c.type_named.ensures ∙ ap (λ (a : Algorithm). type_named a name) (c.algo.ensures ∙ ap (λ (y : Checked). algorithm_checked y) c.checked.ensures) in
    record {
      long = c.in_ok-numbers.ensures.long;
      values = λ k lt.
          let each = c.in_ok-numbers.ensures.each k lt in
          let n : ℕ = each.number in
          let numbered = ap (λ (g : ℕ). number_in p g (along at k)) (sym c.place.ensures) ∙ each.numbered in
          let there = slice_get-get_or values k (pos 0) (omega (arith, lt, c.in_ok-numbers.ensures.long)) in
          let value = ap number_or_zero (each.found ∙ there) in
          (λ i. typed (ty i) (sym value i))
          ∙ known x name (along at k) s.piece s.looked.items c.looks_are_by_number.ensures n (found n) numbered refl;
    }
