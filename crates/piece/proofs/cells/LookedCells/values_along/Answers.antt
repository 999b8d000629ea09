use Rattle.std.proofs.Common.{◌≡◌, ◌+◌, ℕ, ℤ, List, Some, length, ap, sym, ◌∙◌, arith}
use Rattle.checked_plan.specs.Output.Cells.{number_in}
use Rattle.checked_plan.specs.View.{plan_checked}
use Rattle.checked_plan.specs.declared.checked.Checked.{Checked}
use Rattle.interpreter.specs.CellRows.{along}
use Rattle.piece.specs.Found.{first_found}
use Rattle.piece.specs.Looked.{numbers_of_piece}
use Rattle.piece.proofs.Along.{row_number}
use Rattle.piece.proofs.cells.LookedCells.values_along.Goals as goal

pub returns-then-values-count : goal.returns-then-values-count
returns-then-values-count c =
    let s = c.args.self.now in
    let p = plan_checked s.cells.now.checked.now in
    let at = c.args.at.now in
    let first : ℕ = c.in_ok-first.first in
    let last : ℕ = c.in_ok-last.last in
    let more : ℕ = c.in_ok-more.more in
    let values : List ℤ = c.in_ok-values.values.now in
    let long : length values ≡ c.args.count = c.if-values-count.true in
    let less : c.args.count ≡ more + 1 = omega (arith, c.in_ok-more.ensures) in
    let counted : first + length values ≡ last + 1 = c.in_ok-values.ensures.count in
    let is : last ≡ first + more = omega (arith, counted, less, long) in
    let list : c.fetched_of-numbers.result.now ≡ numbers_of_piece p s.piece = c.fetched_of-numbers.ensures ∙ ap (λ (y : Checked). numbers_of_piece (plan_checked y) s.piece) c.checked.ensures in
    let start : number_in p c.args.group at ≡ Some first = sym c.in_ok-first.ensures in
    let end : number_in p c.args.group (along at more) ≡ Some (first + more) = c.in_ok-last.ensures ∙ ap (λ (n : ℕ). Some n) is in
    record {
      long = long;
      each = λ k lt. record {
        number = first + k;
        numbered = row_number p c.args.group at more first start end k (omega (arith, lt, less));
        found = (λ i. first_found (first + k) (sym list i) (sym c.as_slice.ensures.value i)) ∙ c.in_ok-values.ensures.values k (omega (arith, is, lt, less));
      };
    }
