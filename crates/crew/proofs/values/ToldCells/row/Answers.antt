use Rattle.std.proofs.Common.{ℤ, get_or, pos, sym, ap, ◌∙◌}
use Rattle.interpreter.specs.CellRows.{told_value}
use Rattle.interpreter.specs.declared.cells.NumberKind.{NumberKind}
use Rattle.crew.specs.Private.{as_typed}
use Rattle.crew.proofs.values.ToldCells.row.Goals as goal

pub returns-in-Exact : goal.returns-in-Exact
returns-in-Exact c =
    let row = c.in_ok-ty.field-0 in
    let is = c.in_ok-ty.ensures in
    record {
      long = is.long;
      values = λ k lt.
          let n : ℤ = get_or row.numbers.now k (pos 0) in
          ap (λ (m : NumberKind). as_typed (told_value m row.ty n)) (sym c.in-Exact.is) ∙ ap as_typed (is.values k lt);
    }
