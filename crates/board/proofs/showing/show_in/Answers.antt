use Rattle.std.proofs.Common.{◌≡◌, ◌+◌, ◌-◌, ◌<◌, ◌≤◌, ◌∙◌, ℕ, ℤ, List, inl, inr, length, take, get_or, arith, ap, sym, subst}
use Rattle.std.specs.Prelude.{slice_index}
use Rattle.std.proofs.lemmas.Bool.{cases_lt, OnTrue_at}
use Rattle.std.proofs.lemmas.List.{length-map, take_all}
use Rattle.orders.specs.CellRuns.{cells_of}
use Rattle.orders.specs.declared.cell_runs.CellRun.{CellRun}
use Rattle.board.specs.CellBits.{bits_in}
use Rattle.board.specs.Layout.{value_at}
use Rattle.board.specs.Seen.{HasSample}
use Rattle.board.specs.Words.{bits_of}
use Rattle.board.proofs.Sheets.{bits_at_place, cells_more, run_stands, run_within}
use Rattle.board.proofs.showing.show_in.Goals as goal

abbrev none : CellRun
none = record { first = 0; count = 0; before = 0 }

pub show_row-requires-clause-values : goal.show_row-requires-clause-values
show_row-requires-clause-values g c =
    let within = run_within c.runs-run-items.result.now c.loop-run.run-index none c.loop-run-test.true in
    let all = ap length c.runs-run-items.ensures.cells in
    let told = ap length c.requires.values ∙ length-map c.args.cells.now (λ n. bits_of (value_at g.J.Run.values n)) in
    omega (arith, within, all, told, c.loop-run.invariant.given)

pub show_row-requires-clause-few : goal.show_row-requires-clause-few
show_row-requires-clause-few g c =
    let within = run_within c.runs-run-items.result.now c.loop-run.run-index none c.loop-run-test.true in
    let all = ap length c.runs-run-items.ensures.cells in
    omega (arith, within, all, c.len.ensures.few, c.len.ensures.count, c.loop-run.invariant.given)

pub show_row-requires-clause-row : goal.show_row-requires-clause-row
show_row-requires-clause-row g c k lt =
    let V : List ℤ = g.J.Run.values in
    let runs = c.runs-run-items.result.now in
    let cells : List ℕ = c.args.cells.now in
    let stands = run_stands runs c.loop-run.run-index none c.loop-run-test.true k lt in
    let inside = stands.0 in
    let all = ap length c.runs-run-items.ensures.cells in
    let at : ℕ = c.loop-run.given + k in
    let here : slice_index cells at ≡ (get_or runs c.loop-run.run-index none).first + k =
    (λ i. slice_index (sym c.runs-run-items.ensures.cells i) (c.loop-run.invariant.given i + k)) ∙ stands.1 in
    bits_at_place V cells (bits_in c.args.values) at c.requires.values (omega (arith, inside, all, c.loop-run.invariant.given)) ∙ ap (λ (n : ℕ). bits_of (value_at V n)) here

pub show_row-requires-clause-inside : goal.show_row-requires-clause-inside
show_row-requires-clause-inside g c some =
    let runs = c.runs-run-items.result.now in
    let cells : List ℕ = c.args.cells.now in
    let r = get_or runs c.loop-run.run-index none in
    let k : ℕ = r.count - 1 in
    let stands = run_stands runs c.loop-run.run-index none c.loop-run-test.true k (omega (arith, some)) in
    let inside = stands.0 in
    let all = ap length c.runs-run-items.ensures.cells in
    let here : slice_index cells (c.loop-run.given + k) ≡ r.first + k = (λ i. slice_index (sym c.runs-run-items.ensures.cells i) (c.loop-run.invariant.given i + k)) ∙ stands.1 in
    let below = c.requires.inside (c.loop-run.given + k) (omega (arith, inside, all, c.loop-run.invariant.given)) in
    omega (arith, below, here, some)

pub overflow_add-given : goal.overflow_add-given
overflow_add-given g c =
    let within = run_within c.runs-run-items.result.now c.loop-run.run-index none c.loop-run-test.true in
    let all = ap length c.runs-run-items.ensures.cells in
    omega (arith, within, all, c.len.ensures.few, c.len.ensures.count, c.loop-run.invariant.given)

pub loop-run-preserved : goal.loop-run-preserved
loop-run-preserved g c =
    let runs = c.runs-run-items.result.now in
    let cells : List ℕ = c.args.cells.now in
    let given : ℕ = c.loop-run.given in
    let r = get_or runs c.loop-run.run-index none in
    let more = cells_more runs c.loop-run.run-index none c.loop-run-test.true in
    let row = OnTrue_at c.if-not-show_row.false c.show_row.ensures.shown in
    record {
      given = omega (arith, more, c.loop-run.invariant.given);
      long = c.show_row.auto.part ∙ c.loop-run.invariant.long;
      shown = λ m lt. elim (cases_lt m given) [
        | inl before ↦ c.show_row.ensures.more (slice_index cells m) (c.loop-run.invariant.shown m before)
        | inr past ↦
            let k : ℕ = m - given in
            let low : k < r.count = omega (arith, past, lt) in
            let stands = run_stands runs c.loop-run.run-index none c.loop-run-test.true k low in
            let at : m ≡ given + k = omega (arith, past) in
            let here : slice_index cells m ≡ r.first + k =
            ap (slice_index cells) at ∙ (λ i. slice_index (sym c.runs-run-items.ensures.cells i) (c.loop-run.invariant.given i + k)) ∙ stands.1 in
            subst (HasSample c.args.planes c.args.before g.J.Run.values c.args.from c.show_row.new.part) (sym here) (row k low)
      ];
      kept = λ n had. c.show_row.ensures.more n (c.loop-run.invariant.kept n had);
    }

pub returns-clause-shown : goal.returns-clause-shown
returns-clause-shown g c = λ k lt.
    let runs = c.runs-run-items.result.now in
    let end : length runs ≤ c.loop-run.run-index = c.loop-run-test.false in
    let all : length (cells_of (take c.loop-run.run-index runs)) ≡ length c.args.cells.now = ap (λ (rs : List CellRun). length (cells_of rs)) (take_all c.loop-run.run-index runs end) ∙ ap length c.runs-run-items.ensures.cells in
    c.loop-run.invariant.shown k (omega (arith, lt, all, c.loop-run.invariant.given))
