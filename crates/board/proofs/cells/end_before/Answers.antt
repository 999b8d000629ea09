use Rattle.std.proofs.Common.{◌∙◌, ℕ, List, inl, inr, ap, sym, subst, arith}
use Rattle.std.specs.Prelude.{Contains}
use Rattle.std.proofs.lemmas.List.{take_all}
use Rattle.orders.specs.CellRuns.{cells_of}
use Rattle.orders.specs.declared.cell_runs.CellRun.{CellRun}
use Rattle.board.proofs.Sheets.{run_ends}
use Rattle.board.proofs.cells.end_before.Goals as goal

pub loop-run-preserved : goal.loop-run-preserved
loop-run-preserved c n there = elim (run_ends c.runs-run-items.result.now c.loop-run.run-index (record { first = 0; count = 0; before = 0 }) c.loop-run-test.true n there) [
  | inl before ↦ c.loop-run.invariant n before
  | inr here ↦ omega (arith, here, c.if-run-end.false)
]

pub returns : goal.returns
returns c n there =
    let runs = c.runs-run-items.result.now in
    let all = ap (λ (rs : List CellRun). cells_of rs) (take_all c.loop-run.run-index runs c.loop-run-test.false) ∙ c.runs-run-items.ensures.cells in
    c.loop-run.invariant n (subst (λ (xs : List ℕ). Contains xs n) (sym all) there)
