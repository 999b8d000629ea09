use Rattle.std.proofs.Common.{◌<◌, ◌^◌, List, sym, subst, ◌≡◌, ℕ, ◌+◌, length, ap, ◌∙◌, arith}
use Rattle.std.specs.List.{range_with_len}
use Rattle.std.proofs.lemmas.List.{length-append}
use Rattle.std.proofs.lemmas.List.FromFn.{length-range_with_len}
use Rattle.orders.specs.CellRuns.{cells_of}
use Rattle.orders.proofs.cell_runs.CellRuns.push.Goals as goal

pub invariant_of-self-2 : goal.invariant_of-self-2
invariant_of-self-2 c =
    let old = cells_of c.self.inside.runs.items in
    let more = range_with_len c.args.first c.args.count in
    let count : c.self.inside.count ≡ length old = c.self.invariant.0 in
    let long : length (cells_of c.add_cells.new.runs.items) ≡ length old + c.args.count =
    ap length c.in_ok-add_cells.ensures.cells ∙ length-append old more ∙ ap (λ (n : ℕ). length old + n) (length-range_with_len c.args.first c.args.count) in
    let room : length old + c.args.count < 2 ^ 32 = subst (λ (xs : List ℕ). length xs + c.args.count < 2 ^ 32) (sym c.self.view_is) c.requires.room in
    (omega (arith, count, long), omega (arith, count, room), c.in_ok-add_cells.ensures.counted, c.in_ok-add_cells.ensures.runs)
