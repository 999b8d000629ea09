use Rattle.std.proofs.Common.{◌≡◌, ◌+◌, ◌-◌, ◌<◌, ◌≤◌, ◌∙◌, ℕ, ℤ, List, inl, inr, length, take, get_or, arith, ap, sym, subst}
use Rattle.std.specs.Prelude.{slice_index}
use Rattle.std.proofs.lemmas.Bool.{cases_lt}
use Rattle.std.proofs.lemmas.List.{length-map, take_all}
use Rattle.orders.specs.CellRuns.{cells_of}
use Rattle.orders.specs.declared.cell_runs.CellRun.{CellRun}
use Rattle.board.specs.CellBits.{bits_in}
use Rattle.board.specs.Kept.{all_bits}
use Rattle.board.specs.Layout.{value_at}
use Rattle.board.specs.Sheets.{HasBits}
use Rattle.board.specs.Words.{bits_of}
use Rattle.board.proofs.Sheets.{bits_at_place, cells_more, run_stands, run_within}
use Rattle.board.proofs.putting.put_runs.Goals as goal

abbrev none : CellRun
none = record { first = 0; count = 0; before = 0 }

pub put_row-requires-clause-values : goal.put_row-requires-clause-values
put_row-requires-clause-values g c =
    let runs = c.runs-run-items.result.now in
    let within = run_within runs c.loop-run.run-index none c.loop-run-test.true in
    let all = ap length c.runs-run-items.ensures.cells in
    let told = ap length c.requires.values ∙ length-map c.args.cells.now (λ n. bits_of (value_at g.J.Run.values n)) in
    omega (arith, within, all, told, c.loop-run.invariant.from)

pub put_row-requires-clause-few : goal.put_row-requires-clause-few
put_row-requires-clause-few g c =
    let within = run_within c.runs-run-items.result.now c.loop-run.run-index none c.loop-run-test.true in
    let all = ap length c.runs-run-items.ensures.cells in
    omega (arith, within, all, c.len.ensures.few, c.len.ensures.count, c.loop-run.invariant.from)

pub put_row-requires-clause-row : goal.put_row-requires-clause-row
put_row-requires-clause-row g c k lt =
    let V : List ℤ = g.J.Run.values in
    let runs = c.runs-run-items.result.now in
    let cells : List ℕ = c.args.cells.now in
    let stands = run_stands runs c.loop-run.run-index none c.loop-run-test.true k lt in
    let inside = stands.0 in
    let all = ap length c.runs-run-items.ensures.cells in
    let here : slice_index cells (c.loop-run.from + k) ≡ (get_or runs c.loop-run.run-index none).first + k =
    (λ i. slice_index (sym c.runs-run-items.ensures.cells i) (c.loop-run.invariant.from i + k)) ∙ stands.1 in
    bits_at_place V cells (bits_in c.args.values) (c.loop-run.from + k) c.requires.values (omega (arith, inside, all, c.loop-run.invariant.from)) ∙ ap (λ (n : ℕ). bits_of (value_at V n)) here

pub put_row-requires-clause-inside : goal.put_row-requires-clause-inside
put_row-requires-clause-inside g c some =
    let runs = c.runs-run-items.result.now in
    let cells : List ℕ = c.args.cells.now in
    let r = get_or runs c.loop-run.run-index none in
    let k : ℕ = r.count - 1 in
    let stands = run_stands runs c.loop-run.run-index none c.loop-run-test.true k (omega (arith, some)) in
    let inside = stands.0 in
    let all = ap length c.runs-run-items.ensures.cells in
    let here : slice_index cells (c.loop-run.from + k) ≡ r.first + k = (λ i. slice_index (sym c.runs-run-items.ensures.cells i) (c.loop-run.invariant.from i + k)) ∙ stands.1 in
    let below = c.requires.inside (c.loop-run.from + k) (omega (arith, inside, all, c.loop-run.invariant.from)) in
    omega (arith, below, here, some, c.loop-run.invariant.bits)

pub overflow_add-from : goal.overflow_add-from
overflow_add-from g c =
    let within = run_within c.runs-run-items.result.now c.loop-run.run-index none c.loop-run-test.true in
    let all = ap length c.runs-run-items.ensures.cells in
    omega (arith, within, all, c.len.ensures.few, c.len.ensures.count, c.loop-run.invariant.from)

pub loop-run-preserved : goal.loop-run-preserved
loop-run-preserved g c =
    let V : List ℤ = g.J.Run.values in
    let runs = c.runs-run-items.result.now in
    let cells : List ℕ = c.args.cells.now in
    let from : ℕ = c.loop-run.from in
    let r = get_or runs c.loop-run.run-index none in
    let after : List ℕ = all_bits c.args.planes c.put_row.new.bits_now c.put_row.new.samples in
    let more = cells_more runs c.loop-run.run-index none c.loop-run-test.true in
    record {
      from = omega (arith, more, c.loop-run.invariant.from);
      bits = c.put_row.auto.bits_now ∙ c.loop-run.invariant.bits;
      samples = c.put_row.auto.samples ∙ c.loop-run.invariant.samples;
      put = λ m lt. elim (cases_lt m from) [
        | inl before ↦ c.put_row.ensures.more (slice_index cells m) (c.loop-run.invariant.put m before)
        | inr past ↦
            let k : ℕ = m - from in
            let low : k < r.count = omega (arith, past, lt) in
            let stands = run_stands runs c.loop-run.run-index none c.loop-run-test.true k low in
            let at : m ≡ from + k = omega (arith, past) in
            let here : slice_index cells m ≡ r.first + k =
            ap (slice_index cells) at ∙ (λ i. slice_index (sym c.runs-run-items.ensures.cells i) (c.loop-run.invariant.from i + k)) ∙ stands.1 in
            subst (HasBits V after) (sym here) (c.put_row.ensures.put k low)
      ];
      kept = λ n had. c.put_row.ensures.more n (c.loop-run.invariant.kept n had);
    }

pub returns-clause-put : goal.returns-clause-put
returns-clause-put g c k lt =
    let runs = c.runs-run-items.result.now in
    let end : length runs ≤ c.loop-run.run-index = c.loop-run-test.false in
    let all : length (cells_of (take c.loop-run.run-index runs)) ≡ length c.args.cells.now = ap (λ (rs : List CellRun). length (cells_of rs)) (take_all c.loop-run.run-index runs end) ∙ ap length c.runs-run-items.ensures.cells in
    c.loop-run.invariant.put k (omega (arith, lt, all, c.loop-run.invariant.from))
