use Rattle.std.proofs.Common.{◌≡◌, ◌≤◌, ◌<◌, ◌+◌, ◌-◌, ◌^◌, ◌++◌, ℕ, List, length, take, drop, get_or, arith, refl, ap, sym, ◌∙◌, subst}
use Rattle.std.specs.List.{range_with_len}
use Rattle.std.proofs.lemmas.List.{length-drop, take_rest}
use Rattle.std.proofs.lemmas.List.Elements.{All-get_or}
use Rattle.orders.proofs.RunLists.{row_behind, row_last}
use Rattle.orders.proofs.cell_runs.CellRuns.of.Goals as goal

pub push-requires-clause-cells : goal.push-requires-clause-cells
push-requires-clause-cells c =
    let cells = c.args.cells.now in
    let place = c.loop-place.place in
    let count = c.run_length-count.result in
    let rest : length (take (length cells - place) (drop place cells)) ≡ length cells - place = subst (λ (xs : List ℕ). length xs ≡ length cells - place) (sym (take_rest cells place)) (length-drop place cells) in
    let within : place + count ≤ length cells = omega (arith, rest, c.run_length-count.ensures.within, c.loop-place-test.true) in
    let row = row_behind cells place count c.loop-place-test.true (get_or cells place 0) refl c.run_length-count.ensures.run in
    let last = row_last cells place count c.run_length-count.ensures.some within row in
    let small = All-get_or (λ (cell : ℕ). cell + 1 < 2 ^ 32) cells (place + count - 1) 0 (omega (arith, within, c.run_length-count.ensures.some)) c.requires.cells in
    omega (arith, last, small, c.run_length-count.ensures.some)

pub loop-place-preserved : goal.loop-place-preserved
loop-place-preserved c =
    let cells = c.args.cells.now in
    let place = c.loop-place.place in
    let count = c.run_length-count.result in
    let rest : length (take (length cells - place) (drop place cells)) ≡ length cells - place = subst (λ (xs : List ℕ). length xs ≡ length cells - place) (sym (take_rest cells place)) (length-drop place cells) in
    let within : place + count ≤ length cells = omega (arith, rest, c.run_length-count.ensures.within, c.loop-place-test.true) in
    let row = row_behind cells place count c.loop-place-test.true (get_or cells place 0) refl c.run_length-count.ensures.run in
    (within, c.in_ok-push.ensures ∙ ap (λ (xs : List ℕ). xs ++ range_with_len (get_or cells place 0) count) c.loop-place.invariant.1 ∙ sym row)
