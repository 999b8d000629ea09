use Rattle.std.proofs.Common.{◌≡◌, ◌+◌, ◌-◌, ℕ, List, get_or, ap, sym, ◌∙◌, arith, subst}
use Rattle.orders.specs.CellRuns.{cells_of, HasPlace}
use Rattle.orders.proofs.RunLists.{cell_at}
use Rattle.orders.proofs.cell_runs.CellRuns.cell.Goals as goal

pub returns : goal.returns
returns c =
    let runs = c.self.inside.runs.items in
    let place = c.args.place in
    let r = c.run_with-run.result in
    let has : HasPlace runs r place = subst (λ (rs : _). HasPlace rs r place) c.as_slice.ensures.value c.run_with-run.ensures in
    let cell = cell_at 0 runs c.self.invariant.2 has.0 r has.1 place 0 (let low = has.2 in omega (arith, low)) (let high = has.3 in omega (arith, high)) in
    let found : get_or (cells_of runs) place 0 ≡ r.first + (place - r.before) = cell ∙ ap (λ (n : ℕ). r.first + (n - r.before)) (let e : 0 + place ≡ place = omega arith in e) in
    sym (subst (λ (cells : List ℕ). get_or cells place 0 ≡ r.first + (place - r.before)) c.self.view_is found)
