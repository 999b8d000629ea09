use Rattle.std.proofs.Common.{◌≡◌, ℕ, ◌+◌, ◌-◌, ◌++◌, length, get_or, ap, ◌∙◌, arith}
use Rattle.std.specs.List.{range_with_len}
use Rattle.std.proofs.lemmas.List.Elements.{All-set}
use Rattle.orders.specs.declared.cell_runs.CellRun.{CellRun}
use Rattle.orders.specs.CellRuns.{IsRun, cells_of}
use Rattle.orders.proofs.RunLists.{last_is, longer_cells, longer_counted}
use Rattle.orders.proofs.cell_runs.lengthen.Goals as goal

pub returns-clause-cells : goal.returns-clause-cells
returns-clause-cells c =
    let runs = c.args.runs.now in
    let k = length runs - 1 in
    let r = get_or runs k (record { first = 0; count = 0; before = 0 }) in
    let last = last_is runs c.args.first c.requires.ends (record { first = 0; count = 0; before = 0 }) in
    let long : k + 1 ≡ length runs = (let e = c.requires.ends.3 in omega (arith, e)) in
    let first : c.longer.result.first ≡ r.first = ap (λ (x : CellRun). x.first) c.longer.ensures in
    let count : c.longer.result.count ≡ r.count + c.args.more = ap (λ (x : CellRun). x.count) c.longer.ensures in
    longer_cells 0 runs k r c.longer.result c.args.more last.0 long first count ∙ ap (λ (a : ℕ). cells_of runs ++ range_with_len a c.args.more) last.1

pub returns-clause-counted : goal.returns-clause-counted
returns-clause-counted c =
    let runs = c.args.runs.now in
    let k = length runs - 1 in
    let r = get_or runs k (record { first = 0; count = 0; before = 0 }) in
    let last = last_is runs c.args.first c.requires.ends (record { first = 0; count = 0; before = 0 }) in
    let long : k + 1 ≡ length runs = (let e = c.requires.ends.3 in omega (arith, e)) in
    longer_counted 0 runs k r c.longer.result last.0 long (ap (λ (x : CellRun). x.before) c.longer.ensures) c.requires.counted

pub returns-clause-runs : goal.returns-clause-runs
returns-clause-runs c =
    let runs = c.args.runs.now in
    let k = length runs - 1 in
    let r = get_or runs k (record { first = 0; count = 0; before = 0 }) in
    let last = last_is runs c.args.first c.requires.ends (record { first = 0; count = 0; before = 0 }) in
    let first : c.longer.result.first ≡ r.first = ap (λ (x : CellRun). x.first) c.longer.ensures in
    let count : c.longer.result.count ≡ r.count + c.args.more = ap (λ (x : CellRun). x.count) c.longer.ensures in
    let fits : IsRun c.longer.result = (let e = last.1 in let m = c.requires.more in omega (arith, e, m, first, count)) in
    All-set IsRun runs k c.longer.result fits c.requires.runs
