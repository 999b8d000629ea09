use Rattle.std.proofs.Common.{◌∙◌, ◌+◌, ◌≤◌, ℕ, List, ap, sym, subst, arith, length, take, get_or}
use Rattle.std.proofs.lemmas.List.{take_all}
use Rattle.orders.specs.Work.{OwnIsParted}
use Rattle.orders.specs.declared.cell_runs.CellRun.{CellRun}
use Rattle.orders.specs.CellRuns.{cells_of}
use Rattle.shares.specs.Taken.{AreTaken, HasRun}
use Rattle.shares.proofs.Taking.{taken_next}
use Rattle.shares.proofs.RowRuns.{cells_more, run_stands}
use Rattle.shares.proofs.taken.TakenCells.take_cells.Goals as goal

abbrev none : CellRun
none = record { first = 0; count = 0; before = 0 }

pub loop-run-preserved : goal.loop-run-preserved
loop-run-preserved c =
    let runs = c.runs-run-items.result.now in
    let k = c.loop-run.run-index in
    let before = length (cells_of (take k runs)) in
    let more = cells_more runs k none c.loop-run-test.true in
    let fell = c.take_run.ensures.count c.if-not-take_run.false in
    let count = c.loop-run.invariant.count in
    record {
      taken = λ own n e start.
          let has : HasRun (own n) before (get_or runs k none) = subst (λ (xs : List ℕ). HasRun xs before (get_or runs k none)) (c.runs-run-items.ensures.cells ∙ sym e) (run_stands runs k none c.loop-run-test.true) in
          subst (AreTaken own c.take_run.new.self n) (sym more) (c.take_run.ensures.taken own n before has (c.loop-run.invariant.taken own n e start) c.if-not-take_run.false);
      long = c.take_run.ensures.length ∙ c.loop-run.invariant.long;
      count = omega (arith, more, fell, count);
    }

pub returns-clause-taken : goal.returns-clause-taken
returns-clause-taken c own n e start _ =
    let runs = c.runs-run-items.result.now in
    let end : length runs ≤ c.loop-run.run-index = c.loop-run-test.false in
    let all = ap (λ (rs : List CellRun). length (cells_of rs)) (take_all c.loop-run.run-index runs end) ∙ ap length (c.runs-run-items.ensures.cells ∙ sym e) in
    taken_next own c.loop-run.self n (length (cells_of (take c.loop-run.run-index runs))) (c.loop-run.invariant.taken own n e start) all

pub returns-clause-count : goal.returns-clause-count
returns-clause-count c _ =
    let runs = c.runs-run-items.result.now in
    let end : length runs ≤ c.loop-run.run-index = c.loop-run-test.false in
    let all = ap (λ (rs : List CellRun). length (cells_of rs)) (take_all c.loop-run.run-index runs end) ∙ ap length c.runs-run-items.ensures.cells in
    let count = c.loop-run.invariant.count in omega (arith, all, count)

pub returns-then-not-take_run-clause-fault : goal.returns-then-not-take_run-clause-fault
returns-then-not-take_run-clause-fault c own n e start _ parted =
    let runs = c.runs-run-items.result.now in
    let k = c.loop-run.run-index in
    let before = length (cells_of (take k runs)) in
    let has : HasRun (own n) before (get_or runs k none) = subst (λ (xs : List ℕ). HasRun xs before (get_or runs k none)) (c.runs-run-items.ensures.cells ∙ sym e) (run_stands runs k none c.loop-run-test.true) in
    c.take_run.ensures.fault own n before has (c.loop-run.invariant.taken own n e start) c.if-not-take_run.true (subst (λ (m : ℕ). OwnIsParted (n + 1) m own) (sym c.loop-run.invariant.long) parted)

pub returns-then-not-take_run-clause-length : goal.returns-then-not-take_run-clause-length
returns-then-not-take_run-clause-length c = c.take_run.ensures.length ∙ c.loop-run.invariant.long
